use mathlib.Core.Path.{◌≡◌}
use lib.ListN.{take}
use Rattle.end.specs.Session.{all_reported}
use Rattle.receive.specs.Hearing.{AllCounted}
use Rattle.receive.proofs.take_reports.Given as goal

-- `receive::take_reports` meets its contract: after so many turns the end is what the first reports left.
abbrev pub invariant-loop-r : goal.invariant-loop-r
invariant-loop-r l = (l.e ≡ all_reported l.t l.draws (take l.r-index l.reports) l.fn.e) × AllCounted l.e
