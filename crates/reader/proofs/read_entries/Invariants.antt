use Rattle.reader.proofs.LoadLaws.{FilledSoFar}
use Rattle.reader.proofs.read_entries.Given as goal

-- `reader::read_entries` meets its contract: after i turns the first i places are filled.
abbrev pub invariant-loop-i : goal.invariant-loop-i
invariant-loop-i g l = FilledSoFar (g.T.Entry.entry_of l.w) (g.T.Entry.width l.w) g.row.N g.T.Entry.blank l.s l.at l.n l.entries l.i
