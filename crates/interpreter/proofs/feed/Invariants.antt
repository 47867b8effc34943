use Prim.Native.Nat.{◌-◌}
use lib.ListN.{length}
use Rattle.interpreter.specs.Interpreter.{standing_of}
use Rattle.interpreter.proofs.FeedLaws.{SoFar}
use Rattle.interpreter.proofs.feed.Given as goal

-- `interpreter::feed` meets its contract: line by line.
abbrev pub invariant-loop-at : goal.invariant-loop-at
invariant-loop-at l =
    SoFar (standing_of l.initial.pair l.initial.line l.initial.len l.initial.stopped) l.piece l.initial.out l.pair l.line l.len l.stopped l.at l.used l.out

abbrev pub decreases-loop-at : goal.decreases-loop-at
decreases-loop-at l = length l.piece - l.at
