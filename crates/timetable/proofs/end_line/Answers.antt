-- `timetable::end_line` meets its contract: what the line leaves, and no byte of the next one.
use mathlib.Core.List.{[]}
use Rattle.timetable.proofs.end_line.Goals as goal

pub returns : goal.returns
returns c =
    let p = c.play-turned.ensures in
    record { stands = λ i. record { list = p.list i; line = []; stopped = p.stops i }; put = p.put }
