-- What the one pass over the windows keeps: it asks and searches in the same turn. That it gives what `find_of` says is
-- proofs/PassLaws.antt; the definitions of `Find.antt` do not rest on these.
use Rattle.std.specs.Prelude.{ℕ, cond, ◌&&◌, List, [], ◌∷◌, leb}
use Rattle.openings.specs.declared.Window.{Window}
use Rattle.openings.specs.declared.Moment.{Moment}
use Rattle.openings.specs.declared.Opening.{Opening}
use Rattle.openings.specs.declared.Opening.TheVariants.{None, Refused}
use Rattle.openings.specs.Windows.{minute_exists, window_exists}
use Rattle.openings.specs.Find.{candidate_of, earlier_of}

-- before the first of n windows
unfoldable pub start_of : ℕ → Moment → Opening
start_of n m = cond (leb n 32 && minute_exists m) None (Refused 15)

-- after a window more
unfoldable pub with_window : Moment → Opening → Window → Opening
with_window m a w = cond (window_exists w) (earlier_of a (candidate_of w m)) (Refused 15)

abbrev pub pass_of : Moment → Opening → List Window → Opening
pass_of m a [] = a
pass_of m a (w ∷ ws) = pass_of m (with_window m a w) ws
