-- `openings::candidate` meets its contract: the four cases of the definition.
use mathlib.Core.Path.{sym, ◌∙◌}
use Rattle.openings.proofs.Tests.{not-begun, today, over, tomorrow}
use Rattle.openings.proofs.candidate.Goals as goal

pub returns-then-not-not_after : goal.returns-then-not-not_after
returns-then-not-not_after c = not-begun _ _ (sym c.not_after.ensures ∙ c.if-not-not_after.true)

pub returns-then-lasts : goal.returns-then-lasts
returns-then-lasts c =
    today _ _ (sym c.not_after.ensures ∙ c.if-not-not_after.false) _ c.max-minute.ensures (sym c.lasts.ensures ∙ c.if-lasts.true)

pub returns-then-not_after : goal.returns-then-not_after
returns-then-not_after c =
    over _ _
    (sym c.not_after.ensures ∙ c.if-not-not_after.false)
    (sym c.lasts.ensures ∙ c.if-lasts.false)
    (sym c.not_after-2.ensures ∙ c.if-not_after.true)

pub returns : goal.returns
returns c =
    tomorrow _ _
    (sym c.not_after.ensures ∙ c.if-not-not_after.false)
    (sym c.lasts.ensures ∙ c.if-lasts.false)
    _
    c.day_after-next.ensures
    (sym c.not_after-2.ensures ∙ c.if-not_after.false)
