-- `calendar::days` meets its contract: February, the four short months, and the others.
use native.Mathlib.Omega.{arith}
use Rattle.calendar.proofs.Tests.{in_february}
use mathlib.Core.Path.{sym, ◌∙◌}
use mathlib.Core.Bool.{true, false}
use Rattle.calendar.proofs.days.Goals as goal

pub returns-then-leap : goal.returns-then-leap
returns-then-leap c = in_february _ _ true (omega arith) (sym c.leap.ensures ∙ c.if-leap.true)

pub returns-else-leap : goal.returns-else-leap
returns-else-leap c = in_february _ _ false (omega arith) (sym c.leap.ensures ∙ c.if-leap.false)
