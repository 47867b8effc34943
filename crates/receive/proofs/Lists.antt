-- The used places of an array: the first ones, as many as a count says, which a test may set to 0.
use mathlib.Core.Path.{◌≡◌, refl}
use Prim.Native.Nat.{ℕ, ◌≤◌}
use native.Mathlib.Omega.{arith}
use mathlib.Core.Bool.{Bool, true, false, cond}
use mathlib.Core.List.{List, []}
use lib.ListN.{take}
use Rattle.message.specs.Section.{all}

-- a count that a test sets to 0
pub none-taken : {A : Type 0} (b : Bool) (n : ℕ) (l : List A) → take (cond b 0 n) l ≡ cond b [] (take n l)
none-taken true n l = refl
none-taken false n l = refl

pub none-most : (b : Bool) (n k : ℕ) → n ≤ k → cond b 0 n ≤ k
none-most true n k h = omega arith
none-most false n k h = h

pub none-all : {A : Type 0} (p : A → Bool) (b : Bool) (n : ℕ) (l : List A) → all p (take n l) ≡ true → all p (take (cond b 0 n) l) ≡ true
unfolding all
none-all p true n l h = refl
none-all p false n l h = h
