-- The laws of the tests over an array's used places: what the library's methods answer is what the definitions say.
use mathlib.Core.Path.{◌≡◌, refl, sym, ap, ◌∙◌}
use Prim.Native.Nat.{ℕ, zero, suc, ◌+◌, ◌<◌}
use native.Mathlib.Numerals.{add-one}
use native.Mathlib.Omega.{arith}
use mathlib.Core.Bool.{Bool, true, false, ◌&&◌, and-true, and-false}
use mathlib.Core.Logic.{◌≢◌}
use mathlib.Core.List.{List, [], ◌∷◌}
use lib.ListN.{length, take, get_or}
use lib.Seq.{take-nil}
use lib.Dec.{leb, ltb, eqb, leb-zero}
use Rattle.std.specs.List.{list_all, IsAllAdjacentAnswer}
use Rattle.message.specs.Section.{all, rises}

-- the library's word for a test of each element
pub list_all_is : {A : Type 0} (p : A → Bool) (l : List A) → list_all p l ≡ all p l
unfolding all
list_all_is p [] = refl
list_all_is p (a ∷ l) = ap (λ (b : Bool). p a && b) (list_all_is p l)

-- a test of at most one entry
pub all-none : {A : Type 0} (p : A → Bool) (n : ℕ) (l : List A) → n ≡ 0 → eqb n 0 ≡ all p (take n l)
unfolding all
all-none p n l e = rw e

pub all_one : {A : Type 0} (p : A → Bool) (n : ℕ) (x : A) → n ≢ 0 → p x ≡ all p (take n (x ∷ []))
unfolding all
all_one p zero x h = absurd (h refl)
all_one p (suc n) x h = rw (take-nil n) (sym (and-true (p x)))

-- ---- keys that rise strictly: each pair of neighbours passes, or one fails
module _ {A : Type 0} (key : A → ℕ) where
  rise_all : (l : List A) → ((k : ℕ) (d : A) → suc k < length l → true ≡ ltb (key (get_or l k d)) (key (get_or l (suc k) d))) → true ≡ rises key l
  unfolding rises
  rise_all [] h = refl
  rise_all (a ∷ []) h = refl
  rise_all (a ∷ b ∷ l) h = λ i. h zero a (omega arith) i && rise_all (b ∷ l) (λ k d p. h (suc k) d (omega arith)) i

  rise_fails : (l : List A) (k : ℕ) → suc k < length l → ((d : A) → false ≡ ltb (key (get_or l k d)) (key (get_or l (suc k) d))) → false ≡ rises key l
  unfolding rises
  rise_fails [] k p h = absurd (omega arith)
  rise_fails (a ∷ []) k p h = absurd (omega arith)
  rise_fails (a ∷ b ∷ l) zero p h = ap (λ (t : Bool). t && rises key (b ∷ l)) (h a)
  rise_fails (a ∷ b ∷ l) (suc k) p h = sym (and-false (ltb (key a) (key b))) ∙ ap (λ (t : Bool). ltb (key a) (key b) && t) (rise_fails (b ∷ l) k (omega arith) h)

  pub rises-sorted : (l : List A) (r : Bool) → IsAllAdjacentAnswer (λ x y b. b ≡ ltb (key x) (key y)) l r → r ≡ rises key l
  rises-sorted l true h = rise_all l (λ k d p. rw (add-one k) at (h k d (omega arith)))
  rises-sorted l false h = rise_fails l h.0 (omega (arith, h.1)) (λ d. rw (add-one h.0) at (h.2 d))

-- ---- strictly rising keys with the least key that may come next: each is at least one above the one before
unfoldable pub rises_from : {A : Type 0} → (A → ℕ) → ℕ → List A → Bool
rises_from key low [] = true
rises_from key low (a ∷ l) = leb low (key a) && rises_from key (key a + 1) l

rises_next : {A : Type 0} (key : A → ℕ) (a : A) (l : List A) → rises key (a ∷ l) ≡ rises_from key (key a + 1) l
unfolding rises rises_from
rises_next key a [] = refl
rises_next key a (b ∷ l) = λ i. leb (sym (add-one (key a)) i) (key b) && rises_next key b l i

pub rises-start : {A : Type 0} (key : A → ℕ) (l : List A) → rises key l ≡ rises_from key 0 l
unfolding rises rises_from
rises-start key [] = refl
rises-start key (a ∷ l) = rises_next key a l ∙ (λ i. sym (leb-zero (key a)) i && rises_from key (key a + 1) l)
