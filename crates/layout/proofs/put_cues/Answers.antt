use native.Mathlib.Omega.{arith}
use borrow.Author.Rules.{rules}
use Rattle.message.specs.Entry.{cue_width, cue_bytes}
use Rattle.layout.proofs.PutLaws.{put_one, put-none}
use Rattle.layout.proofs.put_cues.Goals as goal

-- `layout::put_cues` meets its contract: the count, and the cue where there is one.
pub returns-then-n-eq1 : goal.returns-then-n-eq1
returns-then-n-eq1 c =
    let cue = c.before.before in
    let one = cue.before.before.before in
    let count = one.before.before.before in
    put_one cue_bytes cue_width _ (omega arith) (omega arith) (omega arith) (search rules) count.put_byte.ensures cue.put_bytes.ensures

pub returns-else-n-eq1 : goal.returns-else-n-eq1
returns-else-n-eq1 c =
    let count = c.before.before.before in
    put-none cue_bytes cue_width _ (omega arith) (omega arith) count.put_byte.ensures
