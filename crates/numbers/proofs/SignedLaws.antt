-- The laws of `specs/Signed.antt`: sixteen bits as a signed number and back.
use mathlib.Core.Path.{◌≡◌, ap, ◌∙◌}
use Prim.Native.Nat.{ℕ, ◌-◌, ◌<◌}
use native.Mathlib.Omega.{arith}
use borrow.Author.Tests.{le-ltb, lt-ltb}
use Rattle.numbers.proofs.Cases.{by_order}
use Rattle.numbers.specs.Number.{value, digits, Bytes}
use Rattle.numbers.proofs.NumberLaws.{value-below, value-digits, digits_value}
use lib.ListN.{length}
use mathlib.Core.List.{List}
use Rattle.numbers.specs.Signed.{signed, unsigned}
use lib.IntN.{ℤ, pos, negsuc}
use mir.Syntax.{w16}
use mir.Val.{SFits}

-- a number's bits are 16
bits_fit : (z : ℤ) → SFits w16 z → unsigned z < 65536
bits_fit (pos n) f =
    let k : n < 32768 = f.sfits in
    omega arith
bits_fit (negsuc n) f = omega arith

-- 16 bits, then the number, then the bits; and back
pub bits_back : (n : ℕ) → n < 65536 → unsigned (signed n) ≡ n
bits_back n h =
    by_order n 32768 (λ l. rw (lt-ltb n 32768 l)) (λ g. rw (le-ltb n 32768 g) (omega arith))

pub number_back : (z : ℤ) → SFits w16 z → signed (unsigned z) ≡ z
number_back (pos n) f = rw (lt-ltb n 32768 f.sfits)
number_back (negsuc n) f =
    let k : n < 32768 = f.sfits in
    rw (le-ltb (65535 - n) 32768 (omega arith)) (ap negsuc (omega arith))

-- ---- two bytes as a signed number and back

-- the bytes, then the number, then the bytes
pub two_bytes_back : (s : List ℕ) → length s ≡ 2 → Bytes s → digits 2 (unsigned (signed (value s))) ≡ s
two_bytes_back s e b = ap (digits 2) (bits_back (value s) (value-below 2 s e b)) ∙ digits_value 2 s e b

-- the number, then the bytes, then the number
pub signed_back : (z : ℤ) → SFits w16 z → signed (value (digits 2 (unsigned z))) ≡ z
signed_back z f = ap signed (value-digits 2 (unsigned z) (bits_fit z f)) ∙ number_back z f
