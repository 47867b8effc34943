use mathlib.Core.Path.{ap, ◌∙◌}
use Rattle.end.specs.declared.Opened.{Opened}
use Rattle.end_reopen.proofs.ReopeningLaws.{no_host}
use Rattle.end_reopen.proofs.refused_end.Goals as goal

-- `end_reopen::refused_end` meets its contract: host 255 is refused.
pub returns : goal.returns
returns c = ap (λ (o : Opened). o.end) c.opening.ensures ∙ no_host _
