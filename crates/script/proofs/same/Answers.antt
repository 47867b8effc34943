use mathlib.Core.Path.{◌∙◌}
use Rattle.script.proofs.WordsLaws.{same_bytes}
use Rattle.script.proofs.same.Goals as goal

-- `script::same` meets its contract: the slices' own equality compares byte by byte.
pub returns : goal.returns
returns c = c.eq.ensures ∙ same_bytes _ _
