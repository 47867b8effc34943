-- `openings::with_window` meets its contract: a window that does not exist refuses, another is searched.
use mathlib.Core.Path.{sym, ◌∙◌}
use Rattle.openings.proofs.Tests.{bad_window, good_window}
use Rattle.openings.proofs.with_window.Goals as goal

pub returns-then-not-window_exists : goal.returns-then-not-window_exists
returns-then-not-window_exists c = bad_window _ _ _ (sym c.window_exists.ensures ∙ c.if-not-window_exists.true)

pub returns : goal.returns
returns c =
    good_window _ _ _ _ _ (sym c.window_exists.ensures ∙ c.if-not-window_exists.false) c.earlier.ensures c.candidate.ensures
