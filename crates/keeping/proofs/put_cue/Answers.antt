use native.Mathlib.Omega.{arith}
use Rattle.answers.proofs.PutLaws.{put_both}
use Rattle.keeping.proofs.put_cue.Goals as goal

-- `keeping::put_cue` meets its contract: the digits and the line feed.
pub returns : goal.returns
returns c =
    put_both c.put_digits-end.ensures c.text.ensures (omega arith) (omega arith)
