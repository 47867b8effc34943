use native.Mathlib.Omega.{arith}
use Rattle.decimal.proofs.DecimalLaws.{length-one, length_more, length-least, length_u64}
use Rattle.decimal.proofs.width.Goals as goal

pub loop-left-init : goal.loop-left-init
loop-left-init c = (omega arith, omega arith)

pub overflow_add-w : goal.overflow_add-w
overflow_add-w c = omega (arith, length_u64 c.args.n (omega arith))

pub loop-left-smaller : goal.loop-left-smaller
loop-left-smaller c = omega arith

pub loop-left-preserved : goal.loop-left-preserved
loop-left-preserved c = (omega arith, omega (arith, length_more c.loop-left.left c.loop-left-test.true))

pub returns : goal.returns
returns c =
    let n = c.args.n in
    let e = length-one c.loop-left.left c.loop-left-test.false in
    record { digits = omega arith; some = omega (arith, length-least n); few = omega (arith, length_u64 n (omega arith)) }
