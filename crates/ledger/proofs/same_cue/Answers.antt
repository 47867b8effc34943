use mathlib.Core.Path.{◌∙◌}
use Rattle.ledger.proofs.CueLaws.{compared}
use Rattle.ledger.proofs.same_cue.Goals as goal

-- `ledger::same_cue` meets its contract: arrays are the same where each byte is.
pub returns : goal.returns
returns c = c.eq.ensures ∙ compared _ _
