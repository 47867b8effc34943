use native.Mathlib.Omega.{arith}
use Rattle.answers.proofs.PutLaws.{put_both}
use Rattle.answers.proofs.spaced.Goals as goal

-- `answers::spaced` meets its contract: a number and then a space.
pub returns : goal.returns
returns g c = put_both c.number-end.ensures c.text.ensures (omega arith) (omega arith)
