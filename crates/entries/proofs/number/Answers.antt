use native.Mathlib.Omega.{arith}
use Rattle.decimal.proofs.DecimalLaws.{length_u64}
use Rattle.answers.proofs.PutLaws.{put_in_room}
use Rattle.entries.proofs.number.Goals as goal

-- `entries::number` meets its contract: twenty bytes are enough.
pub returns : goal.returns
returns c = put_in_room c.put_u64.ensures (length_u64 _ (omega arith)) (omega arith)
