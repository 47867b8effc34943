-- A set of small numbers as the binary digits of one number: i is in the set where digit i, worth 2^i, is 1. Document 02, P9: which sources
-- a host reported, which hosts were tried. The laws are in proofs/BitLaws.antt.
use Rattle.std.specs.Prelude.{ℕ, zero, suc, ◌+◌, ◌/◌, ◌%◌, ◌^◌, Bool, cond, eqb}

-- i is in the set
unfoldable pub bit : ℕ → ℕ → Bool
bit set i = eqb (set / 2 ^ i % 2) 1

-- the set with i in it
unfoldable pub with_bit : ℕ → ℕ → ℕ
with_bit set i = cond (bit set i) set (set + 2 ^ i)

-- how many of 0 .. w - 1 are in the set
unfoldable pub members : ℕ → ℕ → ℕ
members set zero = 0
members set (suc w) = cond (bit set w) (suc (members set w)) (members set w)
