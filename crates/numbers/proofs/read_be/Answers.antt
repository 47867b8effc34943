use native.Mathlib.Omega.{arith}
use Prim.Native.Nat.{ℕ}
use lib.ListN.{length-take}
use Rattle.numbers.proofs.NumberLaws.{read_start, read_small, read_next}
use Rattle.numbers.proofs.read_be.Goals as goal

pub loop-byte-init : goal.loop-byte-init
loop-byte-init c = read_start _

pub overflow_mul-v : goal.overflow_mul-v
overflow_mul-v c = omega (arith, read_small c.loop-byte.invariant (omega (arith, length-take {A = ℕ})))

pub loop-byte-preserved : goal.loop-byte-preserved
loop-byte-preserved c = read_next c.loop-byte.invariant (omega arith) c.from.ensures (omega arith)
