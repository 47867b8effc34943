use native.Mathlib.Omega.{arith}
use Rattle.answers.specs.AnswerLine.{answer_words}
use Rattle.answers.proofs.PutLaws.{put_both}
use Rattle.answers.proofs.put_clash.Goals as goal

-- `answers::put_clash` meets its contract: the word, a number with a space, and a number.
pub returns : goal.returns
unfolding answer_words
returns c =
    let p = put_both {most = 9} c.spaced-second.ensures c.number.ensures (omega arith) (omega arith) in
    put_both c.text-first.ensures p (omega arith) (omega arith)
