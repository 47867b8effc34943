-- The law of the fold by which Fire chooses, as a loop goes through it.
use mathlib.Core.Path.{◌≡◌}
use Prim.Native.Nat.{ℕ, ◌+◌}
use native.Mathlib.Numerals.{add-one}
use Rattle.end.specs.Fire.{fold_up}

pub fold_more : {A : Type 0} (f : ℕ → A → A) (a : A) (k : ℕ) → fold_up f a (k + 1) ≡ f k (fold_up f a k)
unfolding fold_up
fold_more f a k = rw (add-one k)
