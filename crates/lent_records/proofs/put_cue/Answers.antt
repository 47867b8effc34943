use native.Mathlib.Omega.{arith}
use borrow.Author.Rules.{rules}
use Rattle.lent_fields.proofs.ByteLaws.{put-part}
use Rattle.lent_records.proofs.put_cue.Goals as goal

-- `lent_records::put_cue` meets its contract.
pub returns : goal.returns
returns c = record { puts = put-part 24 (search rules) (omega arith) c.put_bytes.ensures; long = search rules }
