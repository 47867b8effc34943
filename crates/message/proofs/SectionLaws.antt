-- The laws of a section, over the entry: f reads an entry, g writes it, w is its width, and P says that it fits its w bytes.
use mathlib.Core.Path.{◌≡◌, refl, sym, ap, ◌∙◌}
use Prim.Native.Nat.{ℕ, zero, suc, ◌+◌, ◌*◌, ◌-◌, ◌≤◌, ◌<◌}
use native.Mathlib.Nat.{zero-mul, suc-mul, add_comm}
use native.Mathlib.Numerals.{one-add}
use native.Mathlib.Omega.{arith}
use mathlib.Core.List.{List, [], ◌∷◌, ◌++◌, append_assoc, append-nil}
use lib.ListN.{length, take, drop, get_or, set, replicate, length-append, length-drop, take-append-drop, drop_of_length-le}
use lib.Seq.{drop_at, take-add, drop-drop, set_at, append_snoc}
use Rattle.numbers.specs.Number.{Bytes}
use Rattle.numbers.proofs.NumberLaws.{bytes_drop}
use Rattle.message.specs.Section.{entries, flat, section, section_from, after}

-- each element of l has the property
pub data All {A : Type 0} (P : A → Type 0) : List A → Type 0 where
  none : All P []
  some : {a : A} {l : List A} → P a → All P l → All P (a ∷ l)

-- the property that everything has
abbrev pub Any : {A : Type 0} → A → Type 0
Any a = Unit {0}

pub any : {A : Type 0} (l : List A) → All Any l
any [] = none
any (a ∷ l) = some tt (any l)

pub length-entries : {A : Type 0} (f : List ℕ → A) (w n : ℕ) (s : List ℕ) → length (entries f w n s) ≡ n
unfolding entries
length-entries f w zero s = refl
length-entries f w (suc n) s = ap suc (length-entries f w n (drop w s))

-- one entry more, at the end
pub entries-more : {A : Type 0} (f : List ℕ → A) (w n : ℕ) (s : List ℕ) → entries f w (suc n) s ≡ entries f w n s ++ (f (drop (n * w) s) ∷ [])
unfolding entries
entries-more f w zero s = rw zero-mul
entries-more f w (suc n) s =
    let e : w + n * w ≡ suc n * w = rw suc-mul (omega arith) in
    ap (λ l. f s ∷ l) (entries-more f w n (drop w s)
    ∙ ap (λ (r : List ℕ). entries f w n (drop w s) ++ (f r ∷ [])) (drop-drop (n * w) w s ∙ ap (λ (k : ℕ). drop k s) e))

pub flat_append : {A : Type 0} (g : A → List ℕ) (a b : List A) → flat g (a ++ b) ≡ flat g a ++ flat g b
unfolding flat
flat_append g [] b = refl
flat_append g (x ∷ a) b = ap (λ (l : List ℕ). g x ++ l) (flat_append g a b) ∙ sym (append_assoc (g x) (flat g a) (flat g b))

pub flat-one : {A : Type 0} (g : A → List ℕ) (x : A) → flat g (x ∷ []) ≡ g x
unfolding flat
flat-one g x = append-nil (g x)

-- how long the entries and the section are
module _ {A : Type 0} (g : A → List ℕ) (w : ℕ) (P : A → Type 0) (wide : (a : A) → P a → length (g a) ≡ w) where
  pub length-flat : (l : List A) → All P l → length (flat g l) ≡ length l * w
  unfolding flat
  length-flat [] none = sym (zero-mul w)
  length-flat (a ∷ l) (some p q) = length-append (g a) (flat g l) ∙ (λ i. wide a p i + length-flat l q i) ∙ rw suc-mul (add_comm w (length l * w))

  pub length-section : (l : List A) → All P l → length (section g l) ≡ 1 + length l * w
  unfolding section
  length-section l p = rw (length-flat l p) (omega arith)

  -- what comes after a section that was written
  pub after-section : (l : List A) (t : List ℕ) → All P l → after w (section g l ++ t) ≡ t
  unfolding after section
  after-section l t p = rw one-add (drop_at (flat g l) t (length l * w) (length-flat l p))

  -- written, then read
  module _ (f : List ℕ → A) (back : (a : A) (t : List ℕ) → P a → f (g a ++ t) ≡ a) where
    entries_back : (l : List A) (t : List ℕ) → All P l → entries f w (length l) (flat g l ++ t) ≡ l
    unfolding flat entries
    entries_back [] t none = refl
    entries_back (a ∷ l) t (some p q) =
        let e : (g a ++ flat g l) ++ t ≡ g a ++ (flat g l ++ t) = append_assoc (g a) (flat g l) t in
        (λ i. ap f e i ∷ entries f w (length l) (drop w (e i)))
        ∙ (λ i. back a (flat g l ++ t) p i ∷ entries f w (length l) (drop_at (g a) (flat g l ++ t) w (wide a p) i))
        ∙ ap (λ r. a ∷ r) (entries_back l t q)

    pub section_back : (l : List A) (t : List ℕ) → All P l → section_from f w (section g l ++ t) ≡ l
    unfolding section_from section
    section_back l t p = entries_back l t p

-- read, then written
module _ {A : Type 0} (f : List ℕ → A) (g : A → List ℕ) (w : ℕ) (forth : (s : List ℕ) → Bytes s → w ≤ length s → g (f s) ≡ take w s) where
  flat_forth : (n : ℕ) (s : List ℕ) → Bytes s → n * w ≤ length s → flat g (entries f w n s) ≡ take (n * w) s
  unfolding flat entries
  flat_forth zero s b h = rw zero-mul
  flat_forth (suc n) s b h =
      let e : suc n * w ≡ w + n * w = rw suc-mul (omega arith) in
      let k : n * w ≤ length (drop w s) = rw length-drop (omega arith) in
      (λ i. forth s b (omega arith) i ++ flat_forth n (drop w s) (bytes_drop w s b) k i)
      ∙ sym (take-add w (n * w) s)
      ∙ ap (λ (m : ℕ). take m s) (sym e)

  pub section_forth : (s : List ℕ) → Bytes s → 1 + get_or s 0 0 * w ≤ length s → section g (section_from f w s) ++ after w s ≡ s
  unfolding section section_from after
  section_forth [] b h = absurd (omega arith)
  section_forth (n ∷ s) b h =
      let a : drop (1 + n * w) (n ∷ s) ≡ drop (n * w) s = rw one-add in
      let t : flat g (entries f w n s) ≡ take (n * w) s = flat_forth n s (bytes_drop 1 (n ∷ s) b) (omega arith) in
      (λ i. length-entries f w n s i ∷ (t i ++ a i)) ∙ ap (λ (l : List ℕ). n ∷ l) (take-append-drop (n * w) s)

-- after a section that is all there is
pub after-all : (w : ℕ) (s : List ℕ) → length s ≤ 1 + get_or s 0 0 * w → after w s ≡ []
unfolding after
after-all w s h = drop_of_length-le s h

-- at most one entry, held in its place
pub one_back : {A : Type 0} (l : List A) (d : A) → length l ≤ 1 → take (length l) (get_or l 0 d ∷ []) ≡ l
one_back [] d h = refl
one_back (a ∷ []) d h = refl
one_back (a ∷ b ∷ l) d h = absurd (omega arith)

-- a place in an array that is filled from the front
pub fill_next : {A : Type 0} (l : List A) (k i : ℕ) (d x : A) → length l ≡ i → i < k
    → set (l ++ replicate (k - i) d) i x ≡ (l ++ (x ∷ [])) ++ replicate (k - (i + 1)) d
fill_next l k i d x e h =
    let q : k - i ≡ suc (k - (i + 1)) = omega arith in
    rw q (set_at l d (replicate (k - (i + 1)) d) x i e ∙ sym (append_snoc l x (replicate (k - (i + 1)) d)))
