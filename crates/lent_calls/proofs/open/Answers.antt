use mathlib.Core.Path.{◌∙◌}
use Rattle.end.specs.Opening.{opening_of}
use Rattle.lent_calls.proofs.open.Goals as goal

-- `lent_calls::open` meets its contract.
pub returns : goal.returns
returns c =
    let a = c.args in
    let same = c.open-o.ensures.value ∙ (λ i. opening_of (c.host_of-me.ensures i) (c.params_of-p.ensures i)) in
    rw (← same) c.put_opened.ensures
