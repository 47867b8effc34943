-- The laws of `specs/Number.antt`, over the width.
use mathlib.Core.Path.{◌≡◌, refl, sym, ap, ◌∙◌, subst}
use Prim.Native.Nat.{ℕ, zero, suc, ◌+◌, ◌*◌, ◌/◌, ◌%◌, ◌-◌, ◌^◌, ◌≤◌, ◌<◌}
use native.Mathlib.Nat.{pow-suc, pow-zero, pow-le-pow_right, lt_of_lt_of_le, div-lt_iff_lt-mul, div-add-mod', add-suc, add-zero}
use native.Mathlib.Numerals.{add-one, sub-one}
use native.Mathlib.Omega.{arith}
use mathlib.Core.List.{List, [], ◌∷◌, ◌++◌, append_assoc}
use lib.ListN.{length, take, drop, get_or, length-append, length-set, set, take-append-drop}
use lib.Seq.{take-suc, take_all, length-take-le, get_or-drop, drop-cons, get_or-set_same, drop-set-lt, take-set-le}
use lib.Arith.{digits_lt, digits_div, digits_mod}
use Rattle.numbers.specs.Number.{value_after, value, digits, Bytes}
use Rattle.numbers.specs.Reads.{Reads}
use Rattle.numbers.specs.Splice.{splice}

pub value_append : (h : ℕ) (a b : List ℕ) → value_after h (a ++ b) ≡ value_after (value_after h a) b
unfolding value_after
value_append h [] b = refl
value_append h (x ∷ a) b = value_append (h * 256 + x) a b

-- one more byte at the end
pub value_snoc : (a : List ℕ) (x : ℕ) → value (a ++ (x ∷ [])) ≡ value a * 256 + x
unfolding value_after
value_snoc a x = value_append 0 a (x ∷ [])

pub length_digits : (w n : ℕ) → length (digits w n) ≡ w
unfolding digits
length_digits zero n = refl
length_digits (suc w) n = length-append (digits w (n / 256)) (n % 256 ∷ []) ∙ add-one (length (digits w (n / 256))) ∙ ap suc (length_digits w (n / 256))

bytes_snoc : (s : List ℕ) (x : ℕ) → Bytes s → x < 256 → Bytes (s ++ (x ∷ []))
bytes_snoc [] x h b zero = b
bytes_snoc [] x h b (suc i) = omega arith
bytes_snoc (y ∷ s) x h b zero = h zero
bytes_snoc (y ∷ s) x h b (suc i) = bytes_snoc s x (λ j. h (suc j)) b i

-- written, then read
pub value-digits : (w n : ℕ) → n < 256 ^ w → value (digits w n) ≡ n
unfolding digits value_after
value-digits zero n h = omega (arith, pow-zero 256)
value-digits (suc w) n h =
    let k : n / 256 < 256 ^ w = (div-lt_iff_lt-mul {k = 256} (omega arith)).1 (subst (λ (p : ℕ). n < p) (pow-suc 256 w) h) in
    value_snoc (digits w (n / 256)) (n % 256) ∙ ap (λ (x : ℕ). x * 256 + n % 256) (value-digits w (n / 256) k) ∙ div-add-mod' n 256

-- a list of suc w elements is its first w and then the last
snoc_of : (w : ℕ) (s : List ℕ) → length s ≡ suc w → s ≡ take w s ++ (get_or s w 0 ∷ [])
snoc_of w s e = sym (take_all (suc w) s (omega arith)) ∙ take-suc s w 0 (omega arith)

pub bytes_take : (n : ℕ) (s : List ℕ) → Bytes s → Bytes (take n s)
bytes_take zero s h i = omega arith
bytes_take (suc n) [] h i = h i
bytes_take (suc n) (x ∷ s) h zero = h zero
bytes_take (suc n) (x ∷ s) h (suc i) = bytes_take n s (λ j. h (suc j)) i

pub bytes_drop : (n : ℕ) (s : List ℕ) → Bytes s → Bytes (drop n s)
bytes_drop n s h i = rw get_or-drop (h (n + i))

-- read, then written
pub digits_value : (w : ℕ) (s : List ℕ) → length s ≡ w → Bytes s → digits w (value s) ≡ s
unfolding digits value_after
digits_value zero [] e h = refl
digits_value zero (x ∷ s) e h = absurd (omega arith)
digits_value (suc w) s e h =
    let x : ℕ = get_or s w 0 in
    let t : List ℕ = take w s in
    let v : value s ≡ value t * 256 + x = ap value (snoc_of w s e) ∙ value_snoc t x in
    let d : value s / 256 ≡ value t = ap (λ (n : ℕ). n / 256) v ∙ digits_div (value t) (h w) in
    let m : value s % 256 ≡ x = ap (λ (n : ℕ). n % 256) v ∙ digits_mod (value t) (h w) in
    (λ k. digits w (d k) ++ (m k ∷ []))
    ∙ ap (λ (l : List ℕ). l ++ (x ∷ [])) (digits_value w t (length-take-le w s (omega arith)) (bytes_take w s h))
    ∙ sym (snoc_of w s e)

-- w bytes stand for a number below 256 ^ w
pub value-below : (w : ℕ) (s : List ℕ) → length s ≡ w → Bytes s → value s < 256 ^ w
unfolding value_after
value-below zero [] e h = omega (arith, pow-zero 256)
value-below zero (x ∷ s) e h = absurd (omega arith)
value-below (suc w) s e h =
    let t : List ℕ = take w s in
    let v : value s ≡ value t * 256 + get_or s w 0 = ap value (snoc_of w s e) ∙ value_snoc t (get_or s w 0) in
    let b : value t < 256 ^ w = value-below w t (length-take-le w s (omega arith)) (bytes_take w s h) in
    subst (λ (n : ℕ). n < 256 ^ suc w) (sym v) (subst (λ (n : ℕ). value t * 256 + get_or s w 0 < n) (sym (pow-suc 256 w)) (digits_lt b (h w)))

-- each digit is a byte
pub bytes-digits : (w n : ℕ) → Bytes (digits w n)
unfolding digits
bytes-digits zero n i = omega arith
bytes-digits (suc w) n i = bytes_snoc (digits w (n / 256)) (n % 256) (bytes-digits w (n / 256)) (omega arith) i

-- ---- a loop that reads a number byte by byte: v is what the first i bytes of s stand for

pub read_start : (s : List ℕ) → Reads s 0 0 0
unfolding value_after
read_start s = record { number = refl; below = omega (arith, pow-zero 256) }

-- of at most six bytes, before the last: one byte more leaves the number within 64 bits
pub read_small : {s : List ℕ} {i v : ℕ} → Reads s 0 i v → i < 6 → v < 1099511627776
read_small {s} {i} l h = lt_of_lt_of_le l.below (pow-le-pow_right {n = 256} (omega arith) {i = i} {j = 5} (omega arith))

-- one byte more is read
pub read_next : {s : List ℕ} {i v b : ℕ} → Reads s 0 i v → i < length s → b ≡ get_or s i 0 → b < 256 → Reads s 0 (i + 1) (v * 256 + b)
read_next {s} {i} {v} {b} l h e f =
    let more : 256 ^ (i + 1) ≡ 256 ^ i * 256 = ap (λ (n : ℕ). 256 ^ n) (add-one i) ∙ pow-suc 256 i in
    let step : value (take (i + 1) s) ≡ value (take i s) * 256 + get_or s i 0 = ap value (rw (add-one, take-suc s i 0 h)) ∙ value_snoc (take i s) (get_or s i 0) in
    record { number = (λ j. l.number j * 256 + e j) ∙ sym step; below = rw more (digits_lt l.below f) }

-- ---- a loop that writes the last w bytes of v from the last one on: i of them are left, those of n

-- what stands before `at` is as it was; with the digits that are left, the rest is what is wanted
pub record PutSoFar (at w v : ℕ) (start out : List ℕ) (n i : ℕ) : Type 0 where
  pub within : i ≤ w
  pub same : length out ≡ length start
  pub front : take at out ≡ take at start
  pub rest : digits i n ++ drop (at + i) out ≡ digits w v ++ drop (at + w) start

pub put-start : (at w v : ℕ) (start : List ℕ) → PutSoFar at w v start start v w
put-start at w v start = record { within = omega arith; same = refl; front = refl; rest = refl }

-- one byte less is left to write
digits_step : (s : List ℕ) (at i n : ℕ) → 0 < i → at + i ≤ length s
    → digits i n ++ drop (at + i) s ≡ digits (i - 1) (n / 256) ++ drop (at + (i - 1)) (set s (at + (i - 1)) (n % 256))
unfolding digits
digits_step s at zero n p h = absurd (omega arith)
digits_step s at (suc j) n p h =
    let k : at + j < length s = omega arith in
    let k' : at + j < length (set s (at + j) (n % 256)) = simp length-set (omega arith) in
    let l : at + j < at + suc j = omega arith in
    rw (sub-one, append_assoc, drop-cons (set s (at + j) (n % 256)) (at + j) 0 k', get_or-set_same s (at + j) (n % 256) 0 k, drop-set-lt (suc (at + j)) s (at + j) (n % 256) (omega arith), add-suc)

none_left : (out goal : List ℕ) (at i n : ℕ) → i ≡ 0 → digits i n ++ drop (at + i) out ≡ goal → drop at out ≡ goal
unfolding digits
none_left out goal at i n z e = ap (λ (k : ℕ). drop k out) (sym (add-zero at)) ∙ (rw z at e)

module _ {at w v : ℕ} {start out : List ℕ} {n i : ℕ} (l : PutSoFar at w v start out n i) where
  pub put_digit : 0 < i → at + w ≤ length start → PutSoFar at w v start (set out (at + (i - 1)) (n % 256)) (n / 256) (i - 1)
  put_digit p h = record {
    within = omega arith;
    same = simp length-set l.same;
    front = take-set-le at out _ _ (omega arith) ∙ l.front;
    rest = sym (digits_step out at i n p (omega arith)) ∙ l.rest;
  }

  pub put_all : i ≤ 0 → out ≡ splice at (digits w v) start
  unfolding splice
  put_all h =
      let e = none_left out _ at i n (omega arith) l.rest in
      sym (take-append-drop at out)
      ∙ (λ k. l.front k ++ e k)
      ∙ ap (λ (m : ℕ). take at start ++ (digits w v ++ drop (at + m) start)) (sym (length_digits w v))
