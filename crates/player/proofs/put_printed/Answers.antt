use native.Mathlib.Omega.{arith}
use mathlib.Core.Path.{sym, ap}
use Rattle.player.specs.House.{printed_line}
use Rattle.answers.proofs.PutLaws.{put_wider, put_same}
use Rattle.player.proofs.put_printed.Goals as goal

-- `player::put_printed` meets its contract: "bad", or the line of the answer.
pub returns-in-None : goal.returns-in-None
unfolding printed_line
returns-in-None c = put_same (put_wider c.put_bad.ensures (omega arith)) (sym (ap (printed_line _ _) c.in-None.is))

pub returns-in-Some : goal.returns-in-Some
unfolding printed_line
returns-in-Some c = put_same c.put_line.ensures (sym (ap (printed_line _ _) c.in-Some.is))
