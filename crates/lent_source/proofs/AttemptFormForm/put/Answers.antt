use mathlib.Core.Path.{refl, ◌∙◌}
use Rattle.layout.proofs.PutLaws.{puts-next}
use Rattle.lent_source.specs.SourceLaws.{from-bit}
use Rattle.lent_source.proofs.AttemptFormForm.put.Goals as goal

-- `AttemptForm::put` meets its contract.
pub returns-clause-puts : goal.returns-clause-puts
returns-clause-puts c = rw (← (c.from.ensures ∙ from-bit c.args.x.late)) (puts-next c.put1.ensures.puts c.put1-2.ensures.puts refl)
