use mathlib.Core.Path.{refl}
use native.Mathlib.Omega.{arith}
use Rattle.layout.proofs.PutLaws.{put_byte, put-number, puts-next}
use Rattle.layout.proofs.EchoEntry.put.Goals as goal

-- `layout::EchoEntry::put` meets its contract: three parts, each at the end of the one before.
pub returns : goal.returns
returns c =
    let held = c.before.before in
    let stamp = held.before.before.before.before in
    let host = stamp.before.before.before.before in
    puts-next (put_byte (omega arith) host.put_byte.ensures)
    (puts-next (put-number _ (omega arith) stamp.put_be.ensures) (put-number _ (omega arith) held.put_be-2.ensures) (omega arith))
    refl
