use Rattle.lent_lens.proofs.LensLaws.{rolled, roll-refused}
use Rattle.lent_lens.proofs.roll.Goals as goal

-- `lent_lens::roll` meets its contract.
pub returns-then-code-eq0 : goal.returns-then-code-eq0
returns-then-code-eq0 c =
    let a = c.args in
    rolled a.year a.month a.day _ _ _ c.date_of-d.ensures c.step-s.ensures.0 c.step-s.ensures.1 _
    c.if-code-eq0.true c.at_number.ensures

pub returns : goal.returns
returns c =
    let a = c.args in
    roll-refused a.year a.month a.day _ _ _ c.date_of-d.ensures c.step-s.ensures.0 c.step-s.ensures.1 c.if-code-eq0.false
