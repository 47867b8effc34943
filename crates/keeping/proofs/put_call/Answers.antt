use mathlib.Core.Path.{sym, ap, ◌∙◌}
use mathlib.Core.List.{List, []}
use native.Mathlib.Omega.{arith}
use Rattle.std.specs.Prelude.{Some}
use Rattle.record.specs.Text.{record_text}
use Rattle.answers.proofs.PutLaws.{put_same, put_wider}
use Rattle.keeping.specs.Kept.{kept}
use Rattle.keeping.proofs.LineTexts.{put-none}
use Rattle.keeping.proofs.put_call.Goals as goal

-- `keeping::put_call` meets its contract: the line that the call leaves is written.
pub returns-in-Some : goal.returns-in-Some
returns-in-Some c = put_same c.put_line.ensures (ap record_text c.in-Some.ensures)

pub returns-in-None : goal.returns-in-None
unfolding record_text
returns-in-None c = put_same (put_wider (put-none _ _) (omega arith)) (ap record_text c.in-None.ensures)
