-- The definitions of `specs/Decimal.antt`, computed on examples.
use mathlib.Core.Path.{◌≡◌, refl}
use mathlib.Core.List.{List, [], ◌∷◌}
use Prim.Native.Nat.{ℕ}
use lib.IntN.{pos, negsuc}
use Rattle.std.specs.Prelude.{None, Some}
use Rattle.decimal.specs.Decimal.{figures, decimal, signed_decimal, all_digits, well_written, value_after, unsigned_word, signed_word}

-- ---- printed

zero-printed : decimal 0 ≡ 48 ∷ []
unfolding decimal figures
zero-printed = refl

ten_printed : decimal 10 ≡ 49 ∷ 48 ∷ []
unfolding decimal figures
ten_printed = refl

-- 2^64 − 1
largest : List ℕ
largest = 49 ∷ 56 ∷ 52 ∷ 52 ∷ 54 ∷ 55 ∷ 52 ∷ 52 ∷ 48 ∷ 55 ∷ 51 ∷ 55 ∷ 48 ∷ 57 ∷ 53 ∷ 53 ∷ 49 ∷ 54 ∷ 49 ∷ 53 ∷ []

largest_printed : decimal 18446744073709551615 ≡ largest
unfolding decimal figures largest
largest_printed = refl

minus_two_printed : signed_decimal (negsuc 1) ≡ 45 ∷ 50 ∷ []
unfolding signed_decimal decimal figures
minus_two_printed = refl

least-printed : signed_decimal (negsuc 32767) ≡ 45 ∷ 51 ∷ 50 ∷ 55 ∷ 54 ∷ 56 ∷ []
unfolding signed_decimal decimal figures
least-printed = refl

-- ---- read, unsigned

zero_read : unsigned_word (48 ∷ []) ≡ Some 0
unfolding unsigned_word well_written value_after
zero_read = refl

largest_read : unsigned_word largest ≡ Some 18446744073709551615
unfolding unsigned_word well_written all_digits value_after largest
largest_read = refl

-- 2^64
too_large : unsigned_word (49 ∷ 56 ∷ 52 ∷ 52 ∷ 54 ∷ 55 ∷ 52 ∷ 52 ∷ 48 ∷ 55 ∷ 51 ∷ 55 ∷ 48 ∷ 57 ∷ 53 ∷ 53 ∷ 49 ∷ 54 ∷ 49 ∷ 54 ∷ []) ≡ None
unfolding unsigned_word well_written all_digits value_after
too_large = refl

empty_word : unsigned_word [] ≡ None
unfolding unsigned_word well_written
empty_word = refl

-- "01", "00", "+1", "-1", "1a"
leading_zero : unsigned_word (48 ∷ 49 ∷ []) ≡ None
unfolding unsigned_word well_written
leading_zero = refl

two_zeros : unsigned_word (48 ∷ 48 ∷ []) ≡ None
unfolding unsigned_word well_written
two_zeros = refl

plus_sign : unsigned_word (43 ∷ 49 ∷ []) ≡ None
unfolding unsigned_word well_written all_digits
plus_sign = refl

minus_sign : unsigned_word (45 ∷ 49 ∷ []) ≡ None
unfolding unsigned_word well_written all_digits
minus_sign = refl

letter : unsigned_word (49 ∷ 97 ∷ []) ≡ None
unfolding unsigned_word well_written all_digits
letter = refl

-- ---- read, signed

minus_two_lem : signed_word (45 ∷ 50 ∷ []) ≡ Some (negsuc 1)
unfolding signed_word unsigned_word well_written value_after
minus_two_lem = refl

least : signed_word (45 ∷ 51 ∷ 50 ∷ 55 ∷ 54 ∷ 56 ∷ []) ≡ Some (negsuc 32767)
unfolding signed_word unsigned_word well_written all_digits value_after
least = refl

below-least : signed_word (45 ∷ 51 ∷ 50 ∷ 55 ∷ 54 ∷ 57 ∷ []) ≡ None
unfolding signed_word unsigned_word well_written all_digits value_after
below-least = refl

greatest : signed_word (51 ∷ 50 ∷ 55 ∷ 54 ∷ 55 ∷ []) ≡ Some (pos 32767)
unfolding signed_word unsigned_word well_written all_digits value_after
greatest = refl

above-greatest : signed_word (51 ∷ 50 ∷ 55 ∷ 54 ∷ 56 ∷ []) ≡ None
unfolding signed_word unsigned_word well_written all_digits value_after
above-greatest = refl

-- "-0", "-", "--1", "-01", "+1"
minus_zero : signed_word (45 ∷ 48 ∷ []) ≡ None
unfolding signed_word unsigned_word well_written value_after
minus_zero = refl

only_minus : signed_word (45 ∷ []) ≡ None
unfolding signed_word unsigned_word well_written
only_minus = refl

two_minuses : signed_word (45 ∷ 45 ∷ 49 ∷ []) ≡ None
unfolding signed_word unsigned_word well_written all_digits
two_minuses = refl

minus_leading_zero : signed_word (45 ∷ 48 ∷ 49 ∷ []) ≡ None
unfolding signed_word unsigned_word well_written
minus_leading_zero = refl

plus_one : signed_word (43 ∷ 49 ∷ []) ≡ None
unfolding signed_word unsigned_word well_written all_digits
plus_one = refl
