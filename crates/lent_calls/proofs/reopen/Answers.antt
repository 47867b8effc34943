use mathlib.Core.Path.{◌∙◌}
use Rattle.end_reopen.specs.Reopening.{reopening_of}
use Rattle.lent_calls.proofs.reopen.Goals as goal

-- `lent_calls::reopen` meets its contract.
pub returns : goal.returns
returns c =
    let a = c.args in
    let same = c.reopen-o.ensures.value ∙ (λ i. reopening_of (c.host_of-me.ensures i) (c.params_of-p.ensures i) a.clock a.next) in
    rw (← same) c.put_opened.ensures
