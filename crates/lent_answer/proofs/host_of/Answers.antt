-- `lent_answer::host_of` meets its contract.
use mathlib.Core.Path.{ap}
use Rattle.message.specs.Entry.{as_host}
use Rattle.lent_answer.proofs.host_of.Goals as goal

pub returns : goal.returns
returns c = ap as_host c.narrow8.ensures
