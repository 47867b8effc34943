use Rattle.numbers.specs.Reads.{Reads}
use Rattle.numbers.proofs.read_be.Given as goal

-- `numbers::read_be` meets its contract: after so many turns v is what the first bytes stand for.
abbrev pub invariant-loop-byte : goal.invariant-loop-byte
invariant-loop-byte l = Reads l.byte-items 0 l.byte-index l.v
