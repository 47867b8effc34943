use native.Mathlib.Omega.{arith}
use Rattle.answers.proofs.PutLaws.{put_both}
use Rattle.keeping.proofs.put_numbered.Goals as goal

-- `keeping::put_numbered` meets its contract: the number and the cue.
pub returns : goal.returns
returns c =
    put_both c.spaced-end.ensures c.put_cue.ensures (omega arith) (omega arith)
