use mathlib.Core.Path.{◌≡◌, sym, ap}
use mathlib.Core.Bool.{Bool, true, ◌&&◌, ◌||◌, and-true}
use mathlib.Core.List.{[], ◌∷◌}
use lib.ListN.{length}
use borrow.Author.Tests.{eq-eqb}
use Rattle.end.specs.Sound.{all_of}
use Rattle.sound.proofs.source_sound.Goals as goal

-- `sound::source_sound` meets its contract: the names and the marks have their length, and the tests' equations stand side by side.
-- the tests' equations, side by side; those of the lengths hold
module _ (member : Bool) {a a' b b' c c' d d' e e' f f' g g' h h' l m : Bool} where
  tests : a ≡ a' → b ≡ b' → c ≡ c' → d ≡ d' → e ≡ e' → f ≡ f' → g ≡ g' → h ≡ h' → l ≡ true → m ≡ true
      → (((((((a && b) && c) && (member || d)) && e) && f) && g) && h)
      ≡ all_of (l ∷ a' ∷ b' ∷ c' ∷ (member || d') ∷ e' ∷ f' ∷ m ∷ g' ∷ h' ∷ [])
  tests pa pb pc pd pe pf pg ph pl pm =
      let x = ((((a' && b') && c') && (member || d')) && e') && f' in
      rw (pa, pb, pc, pd, pe, pf, pg, ph, pl, pm) (ap (λ (y : Bool). (y && g') && h') (sym (and-true x)))

pub returns : goal.returns
returns c =
    let args = c.args in
    tests args.member c.span_sound.ensures c.distance_sound.ensures c.heard_sound.ensures
    c.non_member_sound.ensures c.names_sound.ensures.value c.pair_sound.ensures c.origin_sound.ensures
    c.attempts_sound.ensures.value (eq-eqb (length args.s.names) 64 c.names_sound.ensures.names_len)
    (eq-eqb (length args.s.attempts) 64 c.attempts_sound.ensures.attempts_len)
