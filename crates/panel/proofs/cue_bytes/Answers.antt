use mathlib.Core.Path.{◌∙◌}
use native.Mathlib.Omega.{arith}
use Rattle.panel.proofs.AnswerLaws.{all-over}
use Rattle.panel.proofs.cue_bytes.Goals as goal

-- `panel::cue_bytes` meets its contract: 24 bytes written over 24 leave nothing else.
pub returns : goal.returns
returns c = c.put_bytes.ensures ∙ all-over c.args.cue.now (omega arith)
