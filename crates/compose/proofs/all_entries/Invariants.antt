use mathlib.Core.Path.{◌≡◌}
use Prim.Native.Nat.{◌≤◌}
use Rattle.end.specs.Messages.{reports_below, echoes_below}
use Rattle.compose.specs.Entries.{reports_in, echoes_in}
use Rattle.compose.proofs.all_entries.Given as goal

-- `compose::all_entries` meets its contract: after h turns the places have what the first h hosts give.
abbrev pub invariant-loop-h : goal.invariant-loop-h
invariant-loop-h l = (l.h ≤ 8) × ((l.reports ≡ reports_in (reports_below l.e l.h)) × (l.echoes ≡ echoes_in (echoes_below l.e l.h)))
