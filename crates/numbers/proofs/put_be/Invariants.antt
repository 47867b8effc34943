use Rattle.numbers.proofs.NumberLaws.{PutSoFar}
use Rattle.numbers.proofs.put_be.Given as goal

-- `numbers::put_be` meets its contract: the digits that are left, with what is written, are what is wanted.
abbrev pub invariant-loop-i : goal.invariant-loop-i
invariant-loop-i l = PutSoFar l.at l.w l.v l.initial.out l.out l.n l.i
