use native.Mathlib.Omega.{arith}
use Rattle.message.specs.Message.{bytes_with}
use Rattle.layout.proofs.PutLaws.{puts-next}
use Rattle.layout.proofs.put_with.Goals as goal

-- `layout::put_with` meets its contract: the front, and the back at its end.
pub returns : goal.returns
unfolding bytes_with
returns c =
    let back = c.before.before in
    let front = back.before.before.before.before in
    puts-next front.put_front.ensures back.put_back.ensures (omega arith)
