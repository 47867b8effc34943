use Rattle.lent_lens.proofs.LensLaws.{window-there}
use Rattle.lent_lens.proofs.window_at.Goals as goal

-- `lent_lens::window_at` meets its contract.
pub returns : goal.returns
returns c =
    let a = c.args in
    window-there a.s.now a.at _ _ _ _ c.date_of.ensures c.date_of-2.ensures c.narrow16.ensures c.narrow16-2.ensures
