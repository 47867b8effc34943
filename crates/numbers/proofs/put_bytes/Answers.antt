use native.Mathlib.Omega.{arith}
use Rattle.numbers.proofs.SpliceLaws.{splice_put}
use Rattle.numbers.proofs.put_bytes.Goals as goal

-- `numbers::put_bytes` meets its contract: the part of the slice that is written over is a splice.
pub returns : goal.returns
returns c = splice_put _ _ _ (omega arith) c.copy_from_slice.ensures.after
