use native.Mathlib.Omega.{arith}
use Rattle.answers.proofs.PutLaws.{put_both}
use Rattle.keeping.proofs.put_named.Goals as goal

-- `keeping::put_named` meets its contract: the source, the number and the cue.
pub returns : goal.returns
returns c =
    put_both c.spaced-end.ensures c.put_numbered.ensures (omega arith) (omega arith)
