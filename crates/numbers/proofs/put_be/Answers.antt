use native.Mathlib.Omega.{arith}
use Rattle.numbers.proofs.NumberLaws.{put_digit, put_all}
use Rattle.numbers.proofs.put_be.Goals as goal

pub loop-i-preserved : goal.loop-i-preserved
loop-i-preserved c = put_digit c.loop-i.invariant (omega arith) (omega arith)

pub returns : goal.returns
returns c = put_all c.loop-i.invariant (omega arith)
