-- `display::hand_out` meets its contract: the cue stands in the first bytes.
use mathlib.Core.Path.{◌∙◌}
use Rattle.numbers.proofs.SpliceLaws.{splice-start}
use Rattle.end.specs.Answer.{buffer_of}
use Rattle.display.proofs.hand_out.Goals as goal

pub returns-clause-out_after : goal.returns-clause-out_after
unfolding buffer_of
returns-clause-out_after c = c.put_bytes.ensures ∙ splice-start _ _
