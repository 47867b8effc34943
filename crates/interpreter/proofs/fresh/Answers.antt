use mathlib.Core.Path.{ap}
use Rattle.end.specs.declared.Opened.{Opened}
use Rattle.interpreter.proofs.fresh.Goals as goal

-- `interpreter::fresh` meets its contract: the end of the opening.
pub returns : goal.returns
returns c = ap (λ (o : Opened). o.end) c.open-opened.ensures.value
