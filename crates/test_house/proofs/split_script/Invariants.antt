use Rattle.std.proofs.Common.{◌≤◌, length}
use Rattle.test_house.proofs.split_script.Given as goal

-- `test_house::split_script` is safe and ends: each line is shorter than the rest that it starts.
abbrev pub invariant-loop-rest : goal.invariant-loop-rest
invariant-loop-rest l = length l.rest ≤ length l.initial.rest

abbrev pub decreases-loop-rest : goal.decreases-loop-rest
decreases-loop-rest l = length l.rest
