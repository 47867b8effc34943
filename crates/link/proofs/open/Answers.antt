-- `link::open` meets its contract: the opening is the rule, and the verdict's number is its first no.
use mathlib.Core.Path.{ap, ◌∙◌}
use Rattle.message.specs.Question.{refusal_of}
use Rattle.message.proofs.QuestionLaws.{number_of_verdict}
use Rattle.end.specs.declared.Opened.{Opened}
use Rattle.end.specs.Opening.{open_refusal, opening_of}
use Rattle.link.proofs.open.Goals as goal

pub returns : goal.returns
unfolding opening_of
returns c =
    let a = c.args in record { value = c.opening.ensures; verdict_value = ap (λ (o : Opened). refusal_of o.verdict) c.opening.ensures ∙ number_of_verdict (open_refusal a.me a.params) }
