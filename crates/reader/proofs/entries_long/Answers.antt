-- `reader::entries_long` meets its contract: a product of two bytes has sixteen bits.
use mathlib.Core.Path.{refl}
use Prim.Native.Nat.{◌*◌, ◌≤◌}
use native.Mathlib.Nat.{mul-le-mul}
use native.Mathlib.Omega.{arith}
use Rattle.reader.proofs.entries_long.Goals as goal

pub overflow_mul-result : goal.overflow_mul-result
overflow_mul-result c =
    let below : c.args.count * c.args.width ≤ 255 * 255 = let n : c.args.count ≤ 255 = omega arith in let w : c.args.width ≤ 255 = omega arith in mul-le-mul n w in
    omega (arith, below)

pub returns : goal.returns
returns c =
    let below : c.args.count * c.args.width ≤ 255 * 255 = let n : c.args.count ≤ 255 = omega arith in let w : c.args.width ≤ 255 = omega arith in mul-le-mul n w in
    record { long = refl; small = omega (arith, below) }
