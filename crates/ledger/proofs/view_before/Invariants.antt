use Rattle.ledger.proofs.JudgeLaws.{Viewed}
use Rattle.ledger.proofs.view_before.Given as goal

-- `ledger::view_before` meets its contract: line by line.
abbrev pub invariant-loop-l : goal.invariant-loop-l
invariant-loop-l l = Viewed l.lines l.a l.v l.l-index
