-- Sixteen bits as a signed number. Document 01, "The link and its edge": "each a signed 16-bit two's complement number".
-- An integer is `pos n`, which is n, or `negsuc n`, which is −(n + 1).
use Rattle.std.specs.Prelude.{ℕ, ◌-◌, cond, ℤ, pos, negsuc, ltb}

-- the number that 16 bits stand for: from 32768 on it is the bits less 65536
abbrev pub signed : ℕ → ℤ
signed n = cond (ltb n 32768) (pos n) (negsuc (65535 - n))

-- the 16 bits of a number
abbrev pub unsigned : ℤ → ℕ
unsigned (pos n) = n
unsigned (negsuc n) = 65535 - n
