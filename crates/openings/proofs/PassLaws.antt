-- The one pass over the windows gives what `find_of` says: the windows are asked and searched in the same turns, and once one is refused
-- the answer stays so.
use mathlib.Core.Path.{◌≡◌, refl, ap, ◌∙◌}
use mathlib.Core.Bool.{Bool, true, false, cond, ◌&&◌}
use mathlib.Core.List.{List, [], ◌∷◌}
use lib.Dec.{leb}
use lib.ListN.{length}
use Rattle.openings.specs.declared.Window.{Window}
use Rattle.openings.specs.declared.Moment.{Moment}
use Rattle.openings.specs.declared.Opening.{Opening}
use Rattle.openings.specs.declared.Opening.TheVariants.{None, Refused}
use Rattle.openings.specs.Windows.{minute_exists, window_exists, all_exist}
use Rattle.openings.specs.Find.{candidate_of, earlier_of, earliest_of, in_order, find_of}
use Rattle.openings.specs.Pass.{start_of, with_window, pass_of}

refused-on : (m : Moment) (w : Window) (t : Bool) → window_exists w ≡ t → with_window m (Refused 15) w ≡ Refused 15
unfolding with_window
refused-on m w true e = simp e
refused-on m w false e = simp e

refused-stays : (m : Moment) (ws : List Window) → pass_of m (Refused 15) ws ≡ Refused 15
refused-stays m [] = refl
refused-stays m (w ∷ ws) = ap (λ (a : Opening). pass_of m a ws) (refused-on m w _ refl) ∙ refused-stays m ws

turn : (m : Moment) (a : Opening) (w : Window) (ws : List Window) (t : Bool) → window_exists w ≡ t
    → pass_of m (earlier_of a (candidate_of w m)) ws ≡ cond (all_exist ws) (earliest_of m (earlier_of a (candidate_of w m)) ws) (Refused 15)
    → pass_of m (with_window m a w) ws ≡ cond (t && all_exist ws) (earliest_of m (earlier_of a (candidate_of w m)) ws) (Refused 15)
unfolding with_window
turn m a w ws true e rest = ap (λ (b : Opening). pass_of m b ws) (simp e) ∙ rest
turn m a w ws false e rest = ap (λ (b : Opening). pass_of m b ws) (simp e) ∙ refused-stays m ws

searches : (m : Moment) (a : Opening) (ws : List Window) → pass_of m a ws ≡ cond (all_exist ws) (earliest_of m a ws) (Refused 15)
unfolding all_exist earliest_of
searches m a [] = refl
searches m a (w ∷ ws) = turn m a w ws (window_exists w) refl (searches m (earlier_of a (candidate_of w m)) ws)

by_question : (ws : List Window) (m : Moment) (s t : Bool) → leb (length ws) 32 ≡ s → minute_exists m ≡ t
    → pass_of m (cond (s && t) None (Refused 15)) ws ≡ cond (s && (t && all_exist ws)) (earliest_of m None ws) (Refused 15)
by_question ws m true true e f = searches m None ws
by_question ws m true false e f = refused-stays m ws
by_question ws m false t e f = refused-stays m ws

pub pass_finds : (ws : List Window) (m : Moment) → pass_of m (start_of (length ws) m) ws ≡ find_of ws m
unfolding start_of find_of in_order
pass_finds ws m = by_question ws m _ _ refl refl
