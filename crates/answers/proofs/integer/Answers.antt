use native.Mathlib.Omega.{arith}
use mir.Facts.{to_z-of_z}
use Rattle.decimal.proofs.DecimalLaws.{length-signed}
use Rattle.answers.proofs.PutLaws.{put_in_room}
use Rattle.answers.proofs.integer.Goals as goal

-- `answers::integer` meets its contract: six bytes are enough.
pub returns : goal.returns
returns c =
    let e = rw (to_z-of_z c.ranges.z) at c.put_i16.ensures in
    put_in_room e (length-signed c.args.z c.ranges.z) (omega arith)
