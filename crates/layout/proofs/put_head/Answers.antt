use mathlib.Core.Path.{refl}
use native.Mathlib.Omega.{arith}
use Rattle.layout.proofs.PutLaws.{put_byte, put-number, puts-next}
use Rattle.layout.proofs.put_head.Goals as goal

-- `layout::put_head` meets its contract: three parts, each at the end of the one before.
pub returns : goal.returns
returns c =
    let stamp = c.before.before in
    let sender = stamp.before.before.before.before in
    let kind = sender.before.before.before.before in
    puts-next (put_byte (omega arith) kind.put_byte.ensures)
    (puts-next (put_byte (omega arith) sender.put_byte-2.ensures) (put-number _ (omega arith) stamp.put_be.ensures) refl)
    refl
