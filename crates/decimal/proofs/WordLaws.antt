-- What a word means, by what is known of it: the answers of the reader.
use mathlib.Core.Path.{◌≡◌, refl, sym, ap, ◌∙◌}
use mathlib.Core.Bool.{true, false, cond, ◌&&◌, and-false, and-true}
use mathlib.Core.List.{List, [], ◌∷◌}
use Prim.Native.Nat.{ℕ, ◌+◌, ◌*◌, ◌-◌, ◌^◌, ◌≤◌, ◌<◌}
use native.Mathlib.Numerals.{add-one}
use native.Mathlib.Omega.{arith}
use lib.Dec.{ltb, eqb}
use lib.ListN.{length, drop, get_or, drop_of_length-le}
use lib.Seq.{drop-cons}
use lib.IntN.{ℤ, pos}
use borrow.Author.Tests.{ltb-true, lt-ltb, le-ltb, ne_eqb}
use Rattle.std.specs.Prelude.{Result, Ok, Err, OkIff, ◌≢◌, None, Option, Some}
use mir.Syntax.{w16}
use mir.Val.{SFits}
use Rattle.std.specs.Result.{result_ok}
use Rattle.numbers.proofs.Cases.{by_flag, by_order}
use Rattle.decimal.specs.Decimal.{is_digit, all_digits, well_written, value_after, unsigned_word, as_positive, as_negative, signed_word}
use Rattle.decimal.specs.Steps.{with_digit, digits_after}
use Rattle.decimal.proofs.DecimalLaws.{both, after_grows}

-- ---- digits one by one

pub digits-none : (s : List ℕ) → digits_after None s ≡ None
unfolding digits_after
digits-none [] = refl
digits-none (b ∷ s) = digits-none s

digits-all : (h : ℕ) (s : List ℕ) → h < 2 ^ 64
    → digits_after (Some h) s ≡ cond (all_digits s && ltb (value_after h s) (2 ^ 64)) (Some (value_after h s)) None
unfolding digits_after all_digits value_after
digits-all h [] k = rw (lt-ltb h (2 ^ 64) k)
digits-all h (b ∷ s) k =
    let v : ℕ = h * 10 + (b - 48) in
    by_flag (is_digit b)
    (λ d.
    by_order v (2 ^ 64)
    (λ l. rw (d, lt-ltb v (2 ^ 64) l) (digits-all v s l))
    (λ g.
    let m : 2 ^ 64 ≤ value_after v s = omega (arith, after_grows v s) in
    rw (d, le-ltb v (2 ^ 64) g, le-ltb (value_after v s) (2 ^ 64) m, and-false (all_digits s)) (digits-none s)))
    (λ f. rw f (digits-none s))

-- one byte more, and the end
pub digits_step : (s : List ℕ) (u : Option ℕ) (i : ℕ) → i < length s → digits_after u (drop i s) ≡ digits_after (with_digit u (get_or s i 0)) (drop (i + 1) s)
unfolding digits_after
digits_step s u i h = rw (add-one, drop-cons s i 0 h)

pub digits-end : (s : List ℕ) (u : Option ℕ) (i : ℕ) → length s ≤ i → digits_after u (drop i s) ≡ u
unfolding digits_after
digits-end s u i h = rw (drop_of_length-le s {i = i} h)

-- ---- words

pub no_number : (s : List ℕ) → well_written s ≡ false → None ≡ unsigned_word s
unfolding unsigned_word
no_number s h = rw h

pub is_number : (s : List ℕ) → well_written s ≡ true → value_after 0 s < 2 ^ 64 → Some (value_after 0 s) ≡ unsigned_word s
unfolding unsigned_word
is_number s w h = rw (w, lt-ltb (value_after 0 s) (2 ^ 64) h)

-- an empty word, and one of two bytes or more that starts with a zero
pub empty_word : (s : List ℕ) → length s < 1 → None ≡ unsigned_word s
unfolding well_written
empty_word [] h = no_number [] refl
empty_word (b ∷ s) h = absurd (omega arith)

pub zero_word : (s : List ℕ) → 1 ≤ length s → (eqb (get_or s 0 0) 48 && ltb 1 (length s)) ≡ true → None ≡ unsigned_word s
unfolding well_written
zero_word [] h k = absurd (omega arith)
zero_word (b ∷ []) h k = absurd (omega (arith, ltb-true 1 (length (b ∷ [])) (both (eqb b 48) (ltb 1 (length (b ∷ []))) k).1))
zero_word (b ∷ c ∷ s) h k = no_number (b ∷ c ∷ s) (rw (both (eqb b 48) (ltb 1 (length (b ∷ c ∷ s))) k).0)

all_word : (s : List ℕ) → well_written s ≡ all_digits s → digits_after (Some 0) s ≡ unsigned_word s
unfolding unsigned_word
all_word s h = digits-all 0 s (omega arith) ∙ rw h

-- a word that starts otherwise
pub good_word : (s : List ℕ) → 1 ≤ length s → (eqb (get_or s 0 0) 48 && ltb 1 (length s)) ≡ false → digits_after (Some 0) s ≡ unsigned_word s
unfolding well_written all_digits
good_word [] h k = absurd (omega arith)
good_word (b ∷ []) h k = all_word (b ∷ []) (sym (and-true (is_digit b)))
good_word (b ∷ c ∷ s) h k =
    let m : 1 < length (b ∷ c ∷ s) = omega arith in
    let e : eqb b 48 ≡ false = sym (and-true (eqb b 48)) ∙ (rw (lt-ltb 1 (length (b ∷ c ∷ s)) m) at k) in
    all_word (b ∷ c ∷ s) (rw e)

-- a word with a minus sign, and one without
pub minus_word : (s size : List ℕ) → s ≡ 45 ∷ size → as_negative (unsigned_word size) ≡ signed_word s
unfolding signed_word
minus_word s size h = rw h

pub plain_word : (s : List ℕ) → ((size : List ℕ) → s ≢ 45 ∷ size) → as_positive (unsigned_word s) ≡ signed_word s
unfolding signed_word
plain_word [] h = refl
plain_word (b ∷ s) h = rw (ne_eqb b 45 (λ e. h s (ap (λ (x : ℕ). x ∷ s) e)))

-- an unsigned number that is tried as a signed one
pub tried : {E : Type 0} (n : ℕ) (r : Result ℤ E) → OkIff r (SFits w16 (pos n)) (pos n) → result_ok r ≡ as_positive (Some n)
tried {E} n (Ok z) h =
    let k : n < 32768 = h.0.sfits in
    rw (lt-ltb n 32768 k) (ap Some h.1)
tried {E} n (Err e) h =
    by_order n 32768
    (λ l. absurd (h (record { sfits = l })))
    (λ g. rw (le-ltb n 32768 g))
