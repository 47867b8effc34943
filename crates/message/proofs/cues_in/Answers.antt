use mathlib.Core.Path.{◌∙◌}
use Rattle.message.proofs.TestLaws.{all-none, all_one}
use Rattle.message.proofs.cues_in.Goals as goal

-- `message::cues_in` meets its contract: there is at most the one place.
pub returns-then-count-eq0 : goal.returns-then-count-eq0
returns-then-count-eq0 c = all-none _ _ _ c.if-count-eq0.true

pub returns-else-count-eq0 : goal.returns-else-count-eq0
returns-else-count-eq0 c = c.cue_in.ensures ∙ all_one _ _ _ c.if-count-eq0.false
