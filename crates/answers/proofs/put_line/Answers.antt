use native.Mathlib.Omega.{arith}
use Rattle.answers.specs.AnswerLine.{answer_line}
use Rattle.answers.proofs.PutLaws.{put_both}
use Rattle.answers.proofs.put_line.Goals as goal

-- `answers::put_line` meets its contract: the pieces are one write, of at most 56 bytes.
pub returns : goal.returns
unfolding answer_line
returns c =
    let q = put_both {most = 52} c.spaced-second.ensures c.put_ending.ensures (omega arith) (omega arith) in
    put_both c.spaced-first.ensures q (omega arith) (omega arith)
