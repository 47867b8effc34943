-- `timetable::added` meets its contract: there is a place, or there is none.
use native.Mathlib.Omega.{arith}
use Rattle.timetable.proofs.PlayLaws.{added_more, added_full}
use Rattle.timetable.proofs.added.Goals as goal

pub returns-then-count-lt-PLACES : goal.returns-then-count-lt-PLACES
returns-then-count-lt-PLACES c =
    added_more c.args.t.places c.args.t.count _ c.well_formed.0.1.1.0.1.0.1 (omega arith)

pub returns : goal.returns
returns c =
    added_full c.args.t.places c.args.t.count _ c.well_formed.0.1.1.0.1.0.1 (omega arith)
