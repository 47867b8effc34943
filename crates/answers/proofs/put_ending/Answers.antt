use native.Mathlib.Omega.{arith}
use Rattle.answers.proofs.PutLaws.{put_both}
use Rattle.answers.proofs.put_ending.Goals as goal

-- `answers::put_ending` meets its contract: the answer and then the line feed.
pub returns : goal.returns
returns c =
    put_both c.put_answer-end.ensures c.text.ensures (omega arith) (omega arith)
