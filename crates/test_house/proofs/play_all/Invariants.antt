use Rattle.std.proofs.Common.{length}
use Rattle.test_house.proofs.play_all.Given as goal

-- `test_house::play_all` is safe and ends: each script starts after the last.
abbrev pub invariant-loop-rest : goal.invariant-loop-rest
invariant-loop-rest g l = Unit

abbrev pub decreases-loop-rest : goal.decreases-loop-rest
decreases-loop-rest g l = length l.rest
