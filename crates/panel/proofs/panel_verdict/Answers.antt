use mathlib.Core.Path.{◌∙◌, ap}
use Rattle.message.specs.Question.{refusal_of}
use Rattle.message.specs.declared.Reading.{Reading}
use Rattle.panel.specs.Answers.{verdict_of}
use Rattle.panel.proofs.panel_verdict.Goals as goal

-- `panel::panel_verdict` meets its contract: the number of the reader's verdict.
pub returns : goal.returns
unfolding verdict_of
returns c = c.number_of.ensures ∙ ap (λ (r : Reading). refusal_of r.verdict) c.read.ensures.value
