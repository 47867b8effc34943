use native.Mathlib.Omega.{arith}
use Rattle.reader.proofs.LoadLaws.{fill_start, fill_more, fill_all}
use Rattle.reader.proofs.read_entries.Goals as goal

pub loop-i-init : goal.loop-i-init
loop-i-init g c = rw c.empty-entries.ensures (fill_start c.requires.w_in_bounds c.requires.n_le_places)

pub loop-i-preserved : goal.loop-i-preserved
loop-i-preserved g c = fill_more c.loop-i.invariant (omega arith) (rw c.width_of.ensures at c.read.ensures)

pub returns : goal.returns
returns g c = fill_all c.loop-i.invariant (omega arith)
