use native.Mathlib.Omega.{arith}
use Rattle.answers.specs.AnswerLine.{answer_words}
use Rattle.answers.proofs.PutLaws.{put_both}
use Rattle.answers.proofs.put_refused.Goals as goal

-- `answers::put_refused` meets its contract: the word and then the number.
pub returns : goal.returns
unfolding answer_words
returns c =
    put_both c.text-end.ensures c.number.ensures (omega arith) (omega arith)
