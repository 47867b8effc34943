-- `openings::first_of` meets its contract: the fields' order is that of the definition.
use native.Mathlib.Omega.{arith}
use Rattle.std.proofs.lemmas.Bool.Decides.{nat_tests}
use Rattle.calendar.specs.Calendar.{not_after}
use Rattle.openings.specs.Windows.{before}
use Rattle.openings.proofs.first_of.Goals as goal

pub returns-then-lt : goal.returns-then-lt
unfolding before not_after
returns-then-lt c = let e = c.lt.ensures in grind (arith, nat_tests)

pub returns-else-lt : goal.returns-else-lt
unfolding before not_after
returns-else-lt c = let e = c.lt.ensures in grind (arith, nat_tests)
