use Rattle.reader.proofs.LoadLaws.{FilledSoFar}
use Rattle.lent_lens.specs.Lens.{window_of, blank}
use Rattle.lent_lens.proofs.windows_in.Given as goal

-- `lent_lens::windows_in` meets its contract: after i turns the first i places are filled.
abbrev pub invariant-loop-i : goal.invariant-loop-i
invariant-loop-i l = FilledSoFar window_of 8 33 blank l.s 0 l.n l.all l.i
