-- `test_judge::judge_all` is safe and ends: each record starts after the last.
use Rattle.std.proofs.Common.{length}
use Rattle.test_judge.proofs.judge_all.Given as goal

abbrev pub decreases-loop-rest : goal.decreases-loop-rest
decreases-loop-rest g l = length l.rest
