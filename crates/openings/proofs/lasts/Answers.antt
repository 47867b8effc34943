-- `openings::lasts` meets its contract: the dates are over, or the minute decides.
use mathlib.Core.Path.{sym, ◌∙◌}
use Rattle.openings.proofs.Tests.{dates-over, by_minute}
use Rattle.openings.proofs.lasts.Goals as goal

pub returns-then-not-not_after : goal.returns-then-not-not_after
returns-then-not-not_after c = dates-over _ _ (sym c.not_after.ensures ∙ c.if-not-not_after.true)

pub returns : goal.returns
returns c = by_minute _ _ (sym c.not_after.ensures ∙ c.if-not-not_after.false)
