use Rattle.record.proofs.HexLaws.{PairsRead}
use Rattle.record.proofs.cue_in.Given as goal

-- `record::cue_in` meets its contract: pair by pair.
abbrev pub invariant-loop-i : goal.invariant-loop-i
invariant-loop-i l = PairsRead l.w l.cue l.ok l.i
