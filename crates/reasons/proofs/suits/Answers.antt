-- `reasons::suits` meets its contract: the event that was matched has this test.
use Rattle.reasons.proofs.suits.Goals as goal

pub returns-in-Moves : goal.returns-in-Moves
returns-in-Moves c = rw c.in-Moves.is c.may_move.ensures

pub returns-in-Send : goal.returns-in-Send
returns-in-Send c =
    let known = c.in-Send.is in
    rw known (rw known at c.takes-taken.ensures)

pub returns-in-Arrival : goal.returns-in-Arrival
returns-in-Arrival c =
    let known = c.in-Arrival.is in
    rw known (rw known at c.takes-taken.ensures)

pub returns-in-Fire : goal.returns-in-Fire
returns-in-Fire c =
    let known = c.in-Fire.is in
    rw known (rw known at c.takes-taken.ensures)

pub returns-in-Report : goal.returns-in-Report
returns-in-Report c =
    let known = c.in-Report.is in
    rw known (rw known at c.takes-taken.ensures)

pub returns-in-Fetch : goal.returns-in-Fetch
returns-in-Fetch c =
    let known = c.in-Fetch.is in
    rw known (rw known at c.takes-taken.ensures)

pub returns-in-Announce : goal.returns-in-Announce
returns-in-Announce c =
    let known = c.in-Announce.is in
    rw known (rw known at c.takes-taken.ensures)
