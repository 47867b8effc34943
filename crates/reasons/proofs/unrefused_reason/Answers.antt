-- `reasons::unrefused_reason` meets its contract: crashed, wrong status, or what a member has as a reason.
use mathlib.Core.Path.{sym, ◌∙◌}
use Rattle.reasons.proofs.unrefused_reason.Goals as goal

pub returns-then-is_crashed : goal.returns-then-is_crashed
returns-then-is_crashed c = rw (sym c.is_crashed.ensures ∙ c.if-is_crashed.true)

pub returns-then-suits : goal.returns-then-suits
returns-then-suits c =
    rw (sym c.is_crashed.ensures ∙ c.if-is_crashed.false, sym c.suits.ensures ∙ c.if-suits.true, ← c.with_clock-end.ensures) c.member_reason.ensures

pub returns-else-suits : goal.returns-else-suits
returns-else-suits c =
    rw (sym c.is_crashed.ensures ∙ c.if-is_crashed.false, sym c.suits.ensures ∙ c.if-suits.false)
