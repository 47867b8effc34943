use mathlib.Core.Path.{◌≡◌}
use lib.ListN.{drop}
use Rattle.end.specs.Session.{reported_after, reported_in}
use Rattle.session.proofs.reported_in.Given as goal

-- `session::reported_in` meets its contract: the set so far with the sources still to come is the result.
abbrev pub invariant-loop-r : goal.invariant-loop-r
invariant-loop-r l = reported_after l.out (drop l.r-index l.reports) ≡ reported_in l.reports
