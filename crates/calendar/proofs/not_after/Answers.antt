use native.Mathlib.Omega.{arith}
use Rattle.std.proofs.lemmas.Bool.Decides.{nat_tests}
use Rattle.calendar.specs.Calendar.{not_after}
use Rattle.calendar.proofs.not_after.Goals as goal

-- `calendar::not_after` meets its contract: the fields' order is that of the definition.
pub returns : goal.returns
unfolding not_after
returns c = let e = c.le.ensures in grind (arith, nat_tests)
