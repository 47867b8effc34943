use mathlib.Core.Path.{refl}
use native.Mathlib.Omega.{arith}
use Rattle.layout.proofs.PutLaws.{put_byte, put-number, puts-next, puts-long}
use Rattle.layout.proofs.NameEntryEntry.put.Goals as goal

-- `layout::NameEntryEntry::put` meets its contract: three parts, each at the end of the one before.
pub returns : goal.returns
returns c =
    let host = c.before.before in
    let number = host.before.before.before.before in
    let source = number.before.before.before.before in
    puts-long
    (puts-next (put_byte (omega arith) source.put_byte.ensures)
    (puts-next (put-number _ (omega arith) number.put_number.ensures) (put_byte (omega arith) host.put_byte-2.ensures) refl)
    refl)
    (omega arith)
