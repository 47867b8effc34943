-- Cases on a test, a function with one value changed, and a list with one element more or changed.
use mathlib.Core.Path.{◌≡◌, refl, sym, ap}
use mathlib.Core.Bool.{Bool, true, false, cond, ◌&&◌, ◌||◌, true≢false}
use mathlib.Core.List.{List, [], ◌∷◌, ◌++◌}
use mathlib.Core.Option.{some}
use Prim.Native.Nat.{ℕ, zero, suc}
use lib.ListN.{length, get_or, get_elem?, set}
use lib.Dec.{eqb}
use borrow.Author.Tests.{eqb-true, eqb-false, eq-eqb, ne_eqb}
use Rattle.end.specs.Book.{put}

-- what holds of both branches, each under its test, holds of the choice
pub by_cond {ℓ κ} : {A : Type ℓ} (P : A → Type κ) (b : Bool) {x y : A} → (b ≡ true → P x) → (b ≡ false → P y) → P (cond b x y)
by_cond P true f g = f refl
by_cond P false f g = g refl

-- cases on a test
pub by_test {κ} : {P : Type κ} (b : Bool) → (b ≡ true → P) → (b ≡ false → P) → P
by_test true f g = f refl
by_test false f g = g refl

-- no test is both
pub clash {κ} : {P : Type κ} → true ≡ false → P
clash h = absurd (true≢false h)

pub clash' {κ} : {P : Type κ} → false ≡ true → P
clash' h = absurd (true≢false (sym h))

pub and_left : (a b : Bool) → a && b ≡ true → a ≡ true
and_left true b h = refl
and_left false b h = h

pub and_right : (a b : Bool) → a && b ≡ true → b ≡ true
and_right true b h = h
and_right false b h = clash' h

pub and_no : (a : Bool) → a && false ≡ false
and_no true = refl
and_no false = refl

pub or_left : (a b : Bool) → a || b ≡ false → a ≡ false
or_left true b h = h
or_left false b h = refl

pub or_right : (a b : Bool) → a || b ≡ false → b ≡ false
or_right true b h = clash h
or_right false b h = h

pub or_alone : (a b : Bool) → a || b ≡ true → a ≡ false → b ≡ true
or_alone true b h e = clash e
or_alone false b h e = h

pub eqb_flip : (a b : ℕ) → eqb a b ≡ false → eqb b a ≡ false
eqb_flip a b h = ne_eqb b a (λ e. eqb-false a b h (sym e))

-- ---- a function with one value changed
pub put_same : {A : Type 0} (f : ℕ → A) (h : ℕ) (x : A) → put f h x h ≡ x
unfolding put
put_same f h x = rw (eq-eqb h h refl)

pub put_other : {A : Type 0} (f : ℕ → A) (h : ℕ) (x : A) (k : ℕ) → eqb k h ≡ false → put f h x k ≡ f k
unfolding put
put_other f h x k e = rw e

-- what holds of the new value at h, and of the old values elsewhere
pub put_all {κ} : {A : Type 0} (P : ℕ → A → Type κ) (f : ℕ → A) (h : ℕ) (x : A) → P h x → (k : ℕ) → (eqb k h ≡ false → P k (f k)) → P k (put f h x k)
unfolding put
put_all P f h x p k q = by_cond (P k) (eqb k h) (λ e. rw (eqb-true k h e) p) q

-- ---- lists
pub get_elem_snoc : {A : Type 0} (l : List A) (x : A) → get_elem? (l ++ (x ∷ [])) (length l) ≡ some x
get_elem_snoc [] x = refl
get_elem_snoc (y ∷ l) x = get_elem_snoc l x

pub get_elem_keeps : {A : Type 0} (l : List A) (x : A) (n : ℕ) (a : A) → get_elem? l n ≡ some a → get_elem? (l ++ (x ∷ [])) n ≡ some a
get_elem_keeps [] x n a h = cc
get_elem_keeps (y ∷ l) x zero a h = h
get_elem_keeps (y ∷ l) x (suc n) a h = get_elem_keeps l x n a h

pub get_elem_get_d : {A : Type 0} (l : List A) (n : ℕ) (a d : A) → get_elem? l n ≡ some a → get_or l n d ≡ a
get_elem_get_d [] n a d h = cc
get_elem_get_d (y ∷ l) zero a d h = cc
get_elem_get_d (y ∷ l) (suc n) a d h = get_elem_get_d l n a d h

-- an element after a store: the new one at its place, or the old one
pub set_elim {ℓ κ} : {A : Type ℓ} (P : A → Type κ) (l : List A) (i j : ℕ) (a d : A) → (j ≡ i → P a) → P (get_or l j d) → P (get_or (set l i a) j d)
set_elim P [] i j a d f g = g
set_elim P (x ∷ l) zero zero a d f g = f refl
set_elim P (x ∷ l) zero (suc j) a d f g = g
set_elim P (x ∷ l) (suc i) zero a d f g = g
set_elim P (x ∷ l) (suc i) (suc j) a d f g = set_elim P l i j a d (λ e. f (ap suc e)) g
