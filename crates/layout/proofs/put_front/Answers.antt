use mathlib.Core.Path.{refl}
use native.Mathlib.Omega.{arith}
use Rattle.layout.proofs.PutLaws.{puts-next, puts-long}
use Rattle.layout.proofs.put_front.Goals as goal

-- `layout::put_front` meets its contract: the head and two sections, each at the end of the one before.
pub returns : goal.returns
returns c =
    let cues = c.before.before in
    let names = cues.before.before.before.before.before in
    let head = names.before.before.before.before in
    puts-long
    (puts-next head.put_head.ensures (puts-next names.put_section.ensures cues.put_cues.ensures (omega arith)) refl)
    (omega arith)
