use mathlib.Core.Path.{ap, ◌∙◌}
use Rattle.message.specs.Question.{refusal_of}
use Rattle.message.proofs.QuestionLaws.{number_of_verdict}
use Rattle.end.specs.declared.Opened.{Opened}
use Rattle.end_reopen.specs.Reopening.{reopen_refusal, reopening_of}
use Rattle.link.proofs.reopen.Goals as goal

-- `link::reopen` meets its contract: the reopening is the rule, and the verdict's number is its first no.
pub returns : goal.returns
unfolding reopening_of
returns c =
    let a = c.args in
    let e = c.reopening.ensures in record { value = e; verdict_value = ap (λ (o : Opened). refusal_of o.verdict) e ∙ number_of_verdict (reopen_refusal a.me a.params a.clock a.next) }
