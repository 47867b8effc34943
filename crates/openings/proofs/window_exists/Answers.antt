-- `openings::window_exists` meets its contract: each test that fails is one of the definition's.
use mathlib.Core.Path.{sym, ◌∙◌}
use native.Mathlib.Omega.{arith}
use Rattle.openings.proofs.Tests.{bad_first, bad_last, bad_span, no_minutes, by_end}
use Rattle.openings.proofs.window_exists.Goals as goal

pub returns-then-not-exists : goal.returns-then-not-exists
returns-then-not-exists c = bad_first _ (sym c.exists.ensures ∙ c.if-not-exists.true)

pub returns-then-not-exists-2 : goal.returns-then-not-exists-2
returns-then-not-exists-2 c =
    bad_last _
    (sym c.exists.ensures ∙ c.if-not-exists.false)
    (sym c.exists-2.ensures ∙ c.if-not-exists-2.true)

pub returns-then-not-not_after : goal.returns-then-not-not_after
returns-then-not-not_after c =
    bad_span _
    (sym c.exists.ensures ∙ c.if-not-exists.false)
    (sym c.exists-2.ensures ∙ c.if-not-exists-2.false)
    (sym c.not_after.ensures ∙ c.if-not-not_after.true)

pub returns-then-w : goal.returns-then-w
returns-then-w c =
    no_minutes _
    (sym c.exists.ensures ∙ c.if-not-exists.false)
    (sym c.exists-2.ensures ∙ c.if-not-exists-2.false)
    (sym c.not_after.ensures ∙ c.if-not-not_after.false)
    (omega arith)

pub returns : goal.returns
returns c =
    by_end _
    (sym c.exists.ensures ∙ c.if-not-exists.false)
    (sym c.exists-2.ensures ∙ c.if-not-exists-2.false)
    (sym c.not_after.ensures ∙ c.if-not-not_after.false)
    (omega arith)
