use mathlib.Core.Path.{refl, sym}
use Rattle.interpreter.proofs.PlayLaws.{turn-played, put-none, line_same}
use Rattle.interpreter.proofs.turn.Goals as goal

-- `interpreter::turn` meets its contract: what became of the line is the one that was matched.
pub returns-in-More : goal.returns-in-More
returns-in-More c = rw c.in-More.is (record { stands = refl; put = put-none _ _ })

pub returns-in-Whole : goal.returns-in-Whole
returns-in-Whole c =
    let l = line_same c.play.ensures (sym c.meaning.ensures) in
    rw c.in-Whole.is (record { stands = turn-played _ l; put = l.put })

pub returns-in-TooLong : goal.returns-in-TooLong
returns-in-TooLong c =
    let l = c.play-in-TooLong.ensures in
    rw c.in-TooLong.is (record { stands = turn-played _ l; put = l.put })
