-- `fetch::answer_fetch` meets its contract: the test is the definition's.
use mathlib.Core.Path.{refl, sym, ◌∙◌}
use Rattle.end.specs.Answer.{answer_of, buffer_of}
use Rattle.fetch.proofs.answer_fetch.Goals as goal

pub returns-else-may_answer : goal.returns-else-may_answer
unfolding answer_of buffer_of
returns-else-may_answer c = rw (sym c.may_answer.ensures ∙ c.if-may_answer.false) (record { value = refl; out_after = refl })
