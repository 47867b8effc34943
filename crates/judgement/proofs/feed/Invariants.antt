use Rattle.judgement.specs.Pieces.{standing}
use Rattle.judgement.proofs.KeptLaws.{FedOn}
use Rattle.judgement.proofs.feed.Given as goal

-- `judgement::feed` meets its contract: byte by byte.
abbrev pub invariant-loop-b : goal.invariant-loop-b
invariant-loop-b l = FedOn (standing l.initial.kept) l.piece l.kept l.b-index
