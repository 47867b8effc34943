-- A number as big-endian bytes, of any width. Document 01, "Messages": "Numbers are big-endian"; "Agreed between us": "The
-- number reading is shown for any byte width, then used for 2 and 6." The laws over the width are in proofs/NumberLaws.antt.
use Rattle.std.specs.Prelude.{ℕ, zero, suc, ◌+◌, ◌*◌, ◌/◌, ◌%◌, ◌<◌, List, [], ◌∷◌, ◌++◌, get_or}

-- the number that the bytes stand for, when the bytes before them stand for `high`
unfoldable pub value_after : ℕ → List ℕ → ℕ
value_after high [] = high
value_after high (b ∷ bs) = value_after (high * 256 + b) bs

-- the number that big-endian bytes stand for
abbrev pub value : List ℕ → ℕ
value bs = value_after 0 bs

-- the last w big-endian bytes of n
unfoldable pub digits : ℕ → ℕ → List ℕ
digits zero n = []
digits (suc w) n = digits w (n / 256) ++ (n % 256 ∷ [])

-- each element is a byte
abbrev pub Bytes : List ℕ → Type 0
Bytes s = (i : ℕ) → get_or s i 0 < 256
