-- A number in decimal, printed and read. Document 01, "Cases": "decimal numbers without leading zeros or plus sign; a clock is
-- below 2^64, a focus is a signed 16-bit number, never "-0"". Characters are ASCII codes: 48 is "0", 57 is "9", 45 is "-".
-- An integer is `pos n`, which is n, or `negsuc n`, which is −(n + 1). The theorems are in proofs/ReadBack.antt.
use Rattle.std.specs.Prelude.{Bool, true, false, not, cond, ◌&&◌, List, [], ◌∷◌, ◌++◌, ℕ, zero, suc, ◌+◌, ◌*◌, ◌-◌, ◌/◌, ◌%◌, ◌^◌, ltb, leb, eqb, ℤ, pos, negsuc, get_or, drop, None, Option, Some}

-- ---- printed

-- the decimal digits of n: n itself where it is `single`, below 10, and otherwise those of n / 10 and then the last one;
-- `most` is how many may stand before the last
unfoldable pub figures : ℕ → Bool → ℕ → List ℕ
figures zero single n = (48 + n) ∷ []
figures (suc most) true n = (48 + n) ∷ []
figures (suc most) false n = figures most (ltb (n / 10) 10) (n / 10) ++ ((48 + n % 10) ∷ [])

-- the bytes that n is printed as; no number has more than n digits before its last
unfoldable pub decimal : ℕ → List ℕ
decimal n = figures n (ltb n 10) n

-- the bytes that an integer is printed as
unfoldable pub signed_decimal : ℤ → List ℕ
signed_decimal (pos n) = decimal n
signed_decimal (negsuc n) = 45 ∷ decimal (suc n)

-- ---- read

abbrev pub is_digit : ℕ → Bool
is_digit b = leb 48 b && leb b 57

unfoldable pub all_digits : List ℕ → Bool
all_digits [] = true
all_digits (b ∷ s) = is_digit b && all_digits s

-- one digit or more, and "0" is the first of them only where it is the only one
unfoldable pub well_written : List ℕ → Bool
well_written [] = false
well_written (b ∷ []) = is_digit b
well_written (b ∷ c ∷ s) = not (eqb b 48) && all_digits (b ∷ c ∷ s)

-- the number that digits stand for, when those before them stand for `high`
unfoldable pub value_after : ℕ → List ℕ → ℕ
value_after high [] = high
value_after high (b ∷ s) = value_after (high * 10 + (b - 48)) s

-- what a word means as an unsigned number: "decimal numbers without leading zeros or plus sign", "below 2^64"
unfoldable pub unsigned_word : List ℕ → Option ℕ
unsigned_word s = cond (well_written s && ltb (value_after 0 s) (2 ^ 64)) (Some (value_after 0 s)) None

-- an unsigned number as a signed 16-bit one, and as the size of a negative one, which is not 0: "never "-0""
abbrev pub as_positive : Option ℕ → Option ℤ
as_positive (Some n) = cond (ltb n 32768) (Some (pos n)) None
as_positive None = None

abbrev pub as_negative : Option ℕ → Option ℤ
as_negative (Some n) = cond (ltb 0 n && leb n 32768) (Some (negsuc (n - 1))) None
as_negative None = None

-- what a word means as a signed 16-bit number
unfoldable pub signed_word : List ℕ → Option ℤ
signed_word s = cond (eqb (get_or s 0 0) 45) (as_negative (unsigned_word (drop 1 s))) (as_positive (unsigned_word s))
