-- `display_window::lowest_clear` meets its contract: the first place that a search meets is the lowest.
use Rattle.std.proofs.Common.{◌≡◌, true, false, rules, tests}
use Rattle.std.proofs.lemmas.Iterator.{first_from_Range}
use Rattle.numbers.specs.Bits.{bit}
use Rattle.display_window.proofs.SetLaws.{first-is-lowest}
use Rattle.display_window.proofs.lowest_clear.Goals as goal

pub returns : goal.returns
returns c =
    let a = c.args in
    first-is-lowest a.set a.k _
    (first_from_Range _ _ _ _ (λ i. bit a.set i ≡ false) (λ i. bit a.set i ≡ true) c.find.ensures.ran
    (λ x q k. search (rules, tests))
    (λ x q k. (search rules, search (rules, tests))))
