use mathlib.Core.Path.{◌≡◌}
use Rattle.end.specs.Fire.{earliest_name}
use Rattle.earliest.proofs.earliest_name.Given as goal

-- `earliest::earliest_name` meets its contract: after i turns the earliest of the first i numbers is found.
abbrev pub invariant-loop-i : goal.invariant-loop-i
invariant-loop-i l = l.out ≡ earliest_name l.h l.clock l.s l.initial.out l.i
