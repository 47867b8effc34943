use mathlib.Core.Path.{◌≡◌}
use Prim.Native.Nat.{◌≤◌}
use Rattle.end_due.specs.Due.{sources_due}
use Rattle.end_due.proofs.next_due.Given as goal

-- `end_due::next_due` meets its contract: after so many turns the least of the first sources is found.
abbrev pub invariant-loop-s : goal.invariant-loop-s
invariant-loop-s l = (l.s-index ≤ 8) × (l.out ≡ sources_due l.fn.e.sources l.s-index)
