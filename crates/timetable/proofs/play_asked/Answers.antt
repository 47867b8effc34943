-- `timetable::play_asked` meets its contract: what is asked is the one that was matched.
use mathlib.Core.Path.{refl}
use Rattle.timetable.proofs.PlayLaws.{put-none}
use Rattle.timetable.proofs.play_asked.Goals as goal

pub returns-in-Add : goal.returns-in-Add
returns-in-Add c = rw c.in-Add.is (record { list = c.added.ensures; stops = refl; put = put-none _ _ })

pub returns-in-Next : goal.returns-in-Next
returns-in-Next c = rw c.in-Next.is c.play_next.ensures

pub returns-in-Roll : goal.returns-in-Roll
returns-in-Roll c = rw c.in-Roll.is c.play_roll.ensures

pub returns-in-Clear : goal.returns-in-Clear
returns-in-Clear c = rw c.in-Clear.is (record { list = c.cleared.ensures; stops = refl; put = put-none _ _ })
