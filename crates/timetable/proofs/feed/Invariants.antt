use Prim.Native.Nat.{◌-◌}
use lib.ListN.{length}
use Rattle.timetable.specs.Run.{standing}
use Rattle.timetable.proofs.FeedLaws.{SoFar}
use Rattle.timetable.proofs.feed.Given as goal

-- `timetable::feed` meets its contract: byte by byte.
abbrev pub invariant-loop-at : goal.invariant-loop-at
invariant-loop-at l = SoFar (standing l.initial.p) l.piece l.initial.out l.p l.at l.used l.out

abbrev pub decreases-loop-at : goal.decreases-loop-at
decreases-loop-at l = length l.piece - l.at
