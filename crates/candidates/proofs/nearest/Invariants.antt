use mathlib.Core.Path.{◌≡◌}
use Prim.Native.Nat.{◌≤◌}
use Rattle.candidates.specs.Candidates.{nearest_of}
use Rattle.candidates.proofs.nearest.Given as goal

-- `candidates::nearest` meets its contract: after h turns the nearest of the first h hosts is found.
abbrev pub invariant-loop-h : goal.invariant-loop-h
invariant-loop-h l = (l.h ≤ 8) × (l.best ≡ nearest_of l.me l.fn.sources l.source l.tried l.h)
