-- The laws of `specs/Words.antt`.
use mathlib.Core.Path.{◌≡◌, refl, sym, ap, ◌∙◌}
use mathlib.Core.Bool.{Bool, false, cond, ◌&&◌}
use mathlib.Core.List.{List, [], ◌∷◌}
use Prim.Native.Nat.{ℕ, suc, ◌+◌, ◌-◌, ◌≤◌, ◌<◌}
use native.Mathlib.Omega.{arith}
use lib.Dec.{eqb, ltb}
use lib.ListN.{length, take, drop, length-drop}
use lib.Seq.{take_all}
use borrow.Author.Tests.{ltb-true, lt-ltb}
use denote.Ref.{Bor}
use Rattle.std.specs.Prelude.{Option, Some, None, MatchOption}
use Rattle.std.specs.List.{position, position_or_len}
use Rattle.std.specs.Str.{bytes_eq}
use Rattle.numbers.proofs.Cases.{by_flag, by_order}
use Rattle.script.specs.Words.{is_space, onto, words, same}

-- ---- the same words

pub same_bytes : (a b : List ℕ) → bytes_eq a b ≡ same a b
unfolding same
same_bytes [] [] = refl
same_bytes [] (y ∷ b) = refl
same_bytes (x ∷ a) [] = refl
same_bytes (x ∷ a) (y ∷ b) = ap (λ (t : Bool). eqb x y && t) (same_bytes a b)

pub other_length : (a b : List ℕ) → (length a ≡ length b → ⊥) → same a b ≡ false
unfolding same
other_length [] [] h = absurd (h refl)
other_length [] (y ∷ b) h = refl
other_length (x ∷ a) [] h = refl
other_length (x ∷ a) (y ∷ b) h =
    by_flag (eqb x y)
    (λ t. rw (t, other_length a b (λ e. h (ap suc e))))
    (λ f. rw f)

-- ---- the first space

-- where it stands, or the length where there is none
space_in : List ℕ → ℕ
space_in [] = 0
space_in (b ∷ s) = cond (is_space b) 0 (suc (space_in s))

space_within : (s : List ℕ) → space_in s ≤ length s
unfolding space_in
space_within [] = omega arith
space_within (b ∷ s) = by_flag (eqb b 32) (λ t. rw t (omega arith)) (λ f. rw f (omega (arith, space_within s)))

first_space : (s : List ℕ) → position_or_len is_space s ≡ space_in s
unfolding space_in
first_space [] = refl
first_space (b ∷ s) = by_flag (eqb b 32) (λ t. rw t) (λ f. rw f (omega (arith, first_space s)))

found : (s : List ℕ) (i : ℕ) → position is_space s ≡ Some i → (space_in s ≡ i) × (i < length s)
found s i h =
    by_flag (ltb (position_or_len is_space s) (length s))
    (λ t.
    let e : Some (position_or_len is_space s) ≡ Some i = rw t at h in
    let k : position_or_len is_space s ≡ i = cc in
    (sym (first_space s) ∙ k, omega (arith, ltb-true (position_or_len is_space s) (length s) t)))
    (λ f. let e : None ≡ Some i = rw f at h in absurd (let z : ◌≡◌ {A = ℕ} 0 1 = cc in omega arith))

missing : (s : List ℕ) → position is_space s ≡ None → space_in s ≡ length s
missing s h =
    by_order (position_or_len is_space s) (length s)
    (λ l.
    let e : Some (position_or_len is_space s) ≡ None = rw (lt-ltb (position_or_len is_space s) (length s) l) at h in
    absurd (let z : ◌≡◌ {A = ℕ} 0 1 = cc in omega arith))
    (λ g. omega (arith, first_space s, space_within s))

-- ---- words

-- no space: one word
whole_word : (s : List ℕ) → space_in s ≡ length s → words s ≡ s ∷ []
unfolding words space_in onto
whole_word [] h = refl
whole_word (b ∷ s) h =
    by_flag (eqb b 32)
    (λ t. absurd (let e : 0 ≡ suc (length s) = rw t at h in omega arith))
    (λ f. let e : suc (space_in s) ≡ suc (length s) = rw f at h in rw (f, whole_word s (omega arith)))

-- a space: the word before it, and then the words after it
cut : (s : List ℕ) → space_in s < length s → words s ≡ take (space_in s) s ∷ words (drop (suc (space_in s)) s)
unfolding words space_in onto
cut [] h = absurd (omega arith)
cut (b ∷ s) h =
    by_flag (eqb b 32)
    (λ t. rw t)
    (λ f. let e : suc (space_in s) < suc (length s) = rw f at h in rw (f, cut s (omega arith)))

-- there is always a word
pub words-some : (s : List ℕ) → (w : List ℕ) × (l : List (List ℕ)) × (words s ≡ w ∷ l)
unfolding words onto
words-some [] = ([], [], refl)
words-some (b ∷ s) =
    let p = words-some s in
    by_flag (eqb b 32) (λ t. ([], words s, rw t)) (λ f. (b ∷ p.0, p.1, rw (f, p.2)))

-- the words of a line by where its first space stands
pub one_word : (s : List ℕ) → position is_space s ≡ None → words s ≡ s ∷ []
one_word s h = whole_word s (missing s h)

pub first_word : (s : List ℕ) (i : ℕ) → position is_space s ≡ Some i → (i < length s) × (words s ≡ take i s ∷ words (drop (i + 1) s))
first_word s i h =
    let p = found s i h in
    let k : space_in s < length s = omega (arith, p) in
    let e : suc (space_in s) ≡ i + 1 = omega (arith, p) in
    (p.1, cut s k ∙ (λ j. take (p.0 j) s ∷ words (drop (e j) s)))

-- the same with the rest as a slice of the line
pub cut_word : (s : List ℕ) (i : ℕ) → position is_space s ≡ Some i → words s ≡ take i s ∷ words (take (length s - (i + 1)) (drop (i + 1) s))
cut_word s i h =
    let r : List ℕ = drop (i + 1) s in
    let all : take (length s - (i + 1)) r ≡ r = take_all (length s - (i + 1)) r (omega (arith, length-drop (i + 1) s)) in
    (first_word s i h).1 ∙ ap (λ (l : List ℕ). take i s ∷ words l) (sym all)

-- ---- words taken one by one

-- what a step found, and the words that were left before and after it
abbrev pub Found : Option (Bor (List ℕ)) → List (List ℕ) → List (List ℕ) → Type 0
Found r l m = MatchOption r ((l ≡ []) × (m ≡ [])) (λ x. l ≡ x.now ∷ m)
