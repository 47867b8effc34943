use native.Mathlib.Omega.{arith}
use mathlib.Core.Path.{sym, ap}
use Rattle.answers.specs.AnswerLine.{answer_words}
use Rattle.answers.proofs.PutLaws.{put_wider, put_same}
use Rattle.answers.proofs.put_answer.Goals as goal

-- `answers::put_answer` meets its contract: the answer is the one that was matched.
pub returns-in-Done : goal.returns-in-Done
unfolding answer_words
returns-in-Done c = put_same (put_wider c.text.ensures (omega arith)) (sym (ap answer_words c.in-Done.is))

pub returns-in-Ignored : goal.returns-in-Ignored
unfolding answer_words
returns-in-Ignored c = put_same (put_wider c.text-in-Ignored.ensures (omega arith)) (sym (ap answer_words c.in-Ignored.is))

pub returns-in-Nothing : goal.returns-in-Nothing
unfolding answer_words
returns-in-Nothing c = put_same (put_wider c.text-in-Nothing.ensures (omega arith)) (sym (ap answer_words c.in-Nothing.is))

pub returns-in-Exhausted : goal.returns-in-Exhausted
unfolding answer_words
returns-in-Exhausted c = put_same (put_wider c.text-in-Exhausted.ensures (omega arith)) (sym (ap answer_words c.in-Exhausted.is))
