-- A list gathered of the numbers below k, of each at most one entry, which passes a test and has that number as its key: every entry
-- passes, the keys rise, and the list is short.
use mathlib.Core.Path.{◌≡◌, refl}
use Prim.Native.Nat.{ℕ, suc, ◌≤◌}
use native.Mathlib.Omega.{arith}
use mathlib.Core.Bool.{Bool, true, ◌&&◌}
use mathlib.Core.List.{List, [], ◌∷◌, ◌++◌, append-nil}
use lib.ListN.{length, length-append}
use lib.Dec.{ltb}
use borrow.Author.Tests.{lt-ltb, ltb-true}
use Rattle.message.specs.Section.{all, rises}
use Rattle.message.proofs.QuestionLaws.{and_both}

-- ---- tests of every element
pub all_weaken : {A : Type 0} (p q : A → Bool) → ((a : A) → p a ≡ true → q a ≡ true) → (l : List A) → all p l ≡ true → all q l ≡ true
unfolding all
all_weaken p q f [] h = refl
all_weaken p q f (a ∷ l) h = let both = and_both (p a) (all p l) h in λ i. f a both.0 i && all_weaken p q f l both.1 i

all_append : {A : Type 0} (p : A → Bool) (l : List A) (x : A) → all p l ≡ true → p x ≡ true → all p (l ++ (x ∷ [])) ≡ true
unfolding all
all_append p [] x h t = λ i. t i && true
all_append p (a ∷ l) x h t = let both = and_both (p a) (all p l) h in λ i. both.0 i && all_append p l x both.1 t i

-- the keys rise, and the next is above them all
rises-more : {A : Type 0} (key : A → ℕ) (l : List A) (x : A) → rises key l ≡ true → all (λ a. ltb (key a) (key x)) l ≡ true → rises key (l ++ (x ∷ [])) ≡ true
unfolding all rises
rises-more key [] x h t = refl
rises-more key (a ∷ []) x h t = t
rises-more key (a ∷ b ∷ l) x h t =
    let up = and_both (ltb (key a) (key b)) (rises key (b ∷ l)) h in
    let low = and_both (ltb (key a) (key x)) (all (λ a. ltb (key a) (key x)) (b ∷ l)) t in
    λ i. up.0 i && rises-more key (b ∷ l) x up.1 low.1 i

-- at most one entry, which passes and has this key
pub data One {A : Type 0} (p : A → Bool) (key : A → ℕ) (k : ℕ) : List A → Type 0 where
  nothing : One p key k []
  single : {x : A} → key x ≡ k → p x ≡ true → One p key k (x ∷ [])

pub one-most : {A : Type 0} {p : A → Bool} {key : A → ℕ} {k : ℕ} {l : List A} → One p key k l → length l ≤ 1
one-most nothing = omega arith
one-most (single e t) = omega arith

pub record Gathered {A : Type 0} (p : A → Bool) (key : A → ℕ) (k : ℕ) (l : List A) : Type 0 where
  pub each : all p l ≡ true
  pub rise : rises key l ≡ true
  pub below : all (λ a. ltb (key a) k) l ≡ true
  pub short : length l ≤ k

module _ {A : Type 0} (p : A → Bool) (key : A → ℕ) where
  pub gathered_none : Gathered p key 0 []
  unfolding all rises
  gathered_none = record { each = refl; rise = refl; below = refl; short = omega arith }

  pub gathered_more : (k : ℕ) (l : List A) {m : List A} → Gathered p key k l → One p key k m → Gathered p key (suc k) (l ++ m)
  gathered_more k l g one =
      go one (all_weaken (λ a. ltb (key a) k) (λ a. ltb (key a) (suc k)) (λ a h. lt-ltb (key a) (suc k) (omega (arith, ltb-true (key a) k h))) l g.below)
    where
      go : {m : List A} → One p key k m → all (λ a. ltb (key a) (suc k)) l ≡ true → Gathered p key (suc k) (l ++ m)
      go nothing wider = rw (append-nil l) (record { each = g.each; rise = g.rise; below = wider; short = omega (arith, g.short) })
      go (single {x} e t) wider = record {
        each = all_append p l x g.each t;
        rise = rises-more key l x g.rise (rw e g.below);
        below = all_append (λ a. ltb (key a) (suc k)) l x wider (lt-ltb (key x) (suc k) (omega (arith, e)));
        short = omega (arith, length-append l (x ∷ []), g.short);
      }
