use lib.ListN.{length}
use Rattle.interpreter.specs.Interpreter.{after, standing}
use Rattle.console.proofs.PieceLaws.{Left}
use Rattle.console.proofs.play_piece.Given as goal

-- What is left of the piece gives what the whole piece gives.
abbrev pub invariant-loop-rest : goal.invariant-loop-rest
invariant-loop-rest g l = Left l.playing l.rest (after (standing l.initial.playing) l.initial.rest)

abbrev pub decreases-loop-rest : goal.decreases-loop-rest
decreases-loop-rest g l = length l.rest
