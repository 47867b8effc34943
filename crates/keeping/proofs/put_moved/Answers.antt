use native.Mathlib.Omega.{arith}
use Rattle.answers.proofs.PutLaws.{put_both}
use Rattle.keeping.proofs.put_moved.Goals as goal

-- `keeping::put_moved` meets its contract: the word, the host and the line feed.
pub returns : goal.returns
returns c =
    let p = put_both {most = 4} c.number-end.ensures c.text.ensures (omega arith) (omega arith) in
    put_both c.put_move-word.ensures p (omega arith) (omega arith)
