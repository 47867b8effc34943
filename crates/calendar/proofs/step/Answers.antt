-- `calendar::step` meets its contract: a date that exists is moved, another stays.
use mathlib.Core.Path.{sym, ◌∙◌}
use Rattle.calendar.proofs.Tests.{rolls, rolls_not}
use Rattle.calendar.proofs.step.Goals as goal

pub returns-then-exists : goal.returns-then-exists
returns-then-exists c = rolls _ _ (sym c.exists.ensures ∙ c.if-exists.true) c.next_day-next.ensures

pub returns : goal.returns
returns c = rolls_not _ (sym c.exists.ensures ∙ c.if-exists.false)
