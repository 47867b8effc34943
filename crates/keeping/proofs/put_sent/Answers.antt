use native.Mathlib.Omega.{arith}
use Rattle.answers.proofs.PutLaws.{put_both}
use Rattle.keeping.proofs.put_sent.Goals as goal

-- `keeping::put_sent` meets its contract: the word, the host, the number and the cue.
pub returns : goal.returns
returns c =
    put_both c.text-end.ensures c.put_named.ensures (omega arith) (omega arith)
