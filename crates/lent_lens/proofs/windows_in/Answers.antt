use native.Mathlib.Nat.{zero-add}
use native.Mathlib.Omega.{arith}
use Rattle.reader.proofs.LoadLaws.{fill_start, entry-there, fill_more, fill_all}
use Rattle.lent_lens.proofs.windows_in.Goals as goal

pub loop-i-init : goal.loop-i-init
loop-i-init c = fill_start (omega arith) (omega arith)

pub window_at-requires : goal.window_at-requires
window_at-requires c = omega (arith, entry-there c.loop-i.invariant (omega arith))

pub loop-i-preserved : goal.loop-i-preserved
loop-i-preserved c = fill_more c.loop-i.invariant (omega arith) (rw zero-add c.window_at.ensures)

pub returns : goal.returns
returns c = fill_all c.loop-i.invariant (omega arith)
