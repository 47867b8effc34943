use mathlib.Core.Path.{◌≡◌}
use Rattle.end.specs.Records.{width}
use Rattle.end_due.specs.Due.{names_due}
use Rattle.end_due.proofs.names_due.Given as goal

-- `end_due::names_due` meets its contract: after i turns the least of the first i numbers is found.
abbrev pub invariant-loop-i : goal.invariant-loop-i
invariant-loop-i l = (l.i-end ≡ width l.s.span) × (l.out ≡ names_due l.s l.m l.i)
