use mathlib.Core.Path.{refl}
use native.Mathlib.Omega.{arith}
use Rattle.layout.proofs.PutLaws.{put_byte, put-number, puts-next}
use Rattle.layout.proofs.ReportEntry.put.Goals as goal

-- `layout::ReportEntry::put` meets its contract: two parts, the second at the end of the first.
pub returns : goal.returns
returns c =
    let last = c.before.before in
    let source = last.before.before.before.before in
    puts-next (put_byte (omega arith) source.put_byte.ensures) (put-number _ (omega arith) last.put_number.ensures) refl
