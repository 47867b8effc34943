use mathlib.Core.Path.{◌≡◌}
use Rattle.end.specs.Fire.{earliest}
use Rattle.earliest.proofs.earliest_wait.Given as goal

-- `earliest::earliest_wait` meets its contract: after h turns the earliest of the first h sources is found.
abbrev pub invariant-loop-h : goal.invariant-loop-h
invariant-loop-h l = l.first ≡ earliest l.e l.h
