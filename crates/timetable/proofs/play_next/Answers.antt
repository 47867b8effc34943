-- `timetable::play_next` meets its contract: what is printed is the answer of the search.
use mathlib.Core.Path.{refl, ap}
use Rattle.answers.proofs.PutLaws.{put_same}
use Rattle.entries.specs.Print.{opening_line}
use Rattle.timetable.proofs.play_next.Goals as goal

pub returns : goal.returns
returns c =
    let put = c.before.before in
    record { list = refl; stops = refl; put = put_same put.put_opening-used.ensures (ap opening_line put.find_in-o.ensures) }
