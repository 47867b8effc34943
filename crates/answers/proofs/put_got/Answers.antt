use native.Mathlib.Omega.{arith}
use Rattle.answers.specs.AnswerLine.{answer_words}
use mir.Facts.{to_z-of_z}
use Rattle.answers.proofs.PutLaws.{put_both}
use Rattle.answers.proofs.put_got.Goals as goal

-- `answers::put_got` meets its contract: the word and then its values.
pub returns : goal.returns
unfolding answer_words
returns c =
    put_both c.text-end.ensures (rw (to_z-of_z c.ranges.focus) at c.put_values.ensures) (omega arith) (omega arith)
