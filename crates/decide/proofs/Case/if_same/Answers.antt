-- `decide::Case::if_same` meets its contract: all 24 bytes are compared, one after another.
use mathlib.Core.Path.{◌≡◌, refl, ap}
use Prim.Native.Nat.{ℕ}
use mathlib.Core.Bool.{Bool, ◌&&◌}
use mathlib.Core.List.{List, [], ◌∷◌}
use lib.Dec.{eqb}
use lib.Pointwise.{pointwise}
use Rattle.end.specs.Decide.{same_cue}
use Rattle.decide.proofs.Case.if_same.Goals as goal

compared : (a b : List ℕ) → pointwise eqb a b ≡ same_cue a b
unfolding same_cue
compared [] [] = refl
compared [] (b ∷ bs) = refl
compared (a ∷ l) [] = refl
compared (a ∷ l) (b ∷ bs) = ap (λ (x : Bool). eqb a b && x) (compared l bs)

pub returns-then-eq : goal.returns-then-eq
returns-then-eq c = rw (← compared c.args.self.w.cue c.args.self.r.cue, ← c.eq.ensures, c.if-eq.true)

pub returns-else-eq : goal.returns-else-eq
returns-else-eq c = rw (← compared c.args.self.w.cue c.args.self.r.cue, ← c.eq.ensures, c.if-eq.false)
