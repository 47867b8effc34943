use native.Mathlib.Nat.{pow-le-pow_right}
use native.Mathlib.Omega.{arith}
use Rattle.message.specs.Kind.{widest_number}
use Rattle.reader.proofs.read_number.Goals as goal

-- `reader::read_number` meets its contract: a number of at most the widest bytes fits a `CueNumber`.
pub overflow_cast-result : goal.overflow_cast-result
overflow_cast-result c = omega (arith, c.read_be.ensures.below, pow-le-pow_right {n = 256} (omega arith) {i = c.args.w} {j = widest_number} (omega arith))

pub returns : goal.returns
returns c = c.read_be.ensures.number
