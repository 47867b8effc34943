-- `timetable::play` meets its contract: the line is the one that was matched.
use Rattle.timetable.proofs.play.Goals as goal

pub returns-in-Some : goal.returns-in-Some
returns-in-Some c = rw c.in-Some.is c.play_asked.ensures

pub returns-in-None : goal.returns-in-None
returns-in-None c = rw c.in-None.is c.play_malformed.ensures
