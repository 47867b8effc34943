use mathlib.Core.Path.{◌≡◌}
use lib.ListN.{drop}
use Rattle.end.specs.Session.{measured}
use Rattle.session.proofs.measure.Given as goal

-- `session::measure` meets its contract: what the echoes still to come make of the distance so far is the result.
abbrev pub invariant-loop-x : goal.invariant-loop-x
invariant-loop-x l = measured l.me l.clock (drop l.x-index l.echoes) l.out ≡ measured l.me l.clock l.echoes l.d
