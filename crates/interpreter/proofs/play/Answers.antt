use Rattle.interpreter.proofs.PlayLaws.{line_same}
use Rattle.interpreter.proofs.play.Goals as goal

-- `interpreter::play` meets its contract: the line is the one that was matched.
pub returns-in-Some : goal.returns-in-Some
returns-in-Some c =
    line_same c.play_call.ensures c.in-Some.is

pub returns-in-None : goal.returns-in-None
returns-in-None c =
    line_same c.play_malformed.ensures c.in-None.is
