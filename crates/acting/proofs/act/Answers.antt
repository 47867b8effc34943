-- `acting::act` meets its contract: the event that was matched has this step.
use mathlib.Core.Path.{sym, subst}
use Rattle.end.specs.declared.Event.{Event}
use Rattle.acting.specs.Acting.{OwnGiven}
use Rattle.acting.proofs.MoveLaws.{move-quiet}
use Rattle.acting.proofs.act.Goals as goal

pub moved-stepped-requires : goal.moved-stepped-requires
moved-stepped-requires c = c.requires.settled.host

pub send-requires : goal.send-requires
send-requires c =
    let pre = c.requires in
    let own = subst (λ (w : Event). OwnGiven w c.args.e.now c.args.message) c.in-Send.is pre.own in
    record { settled = pre.settled; next = own; draws = pre.draws; room = pre.room }

pub arrival-requires : goal.arrival-requires
arrival-requires c =
    let pre = c.requires in
    let own = subst (λ (w : Event). OwnGiven w c.args.e.now c.args.message) c.in-Arrival.is pre.own in
    record {
      ready = pre.settled.ready;
      counts = pre.settled.counts;
      passed = record { draws_in = pre.draws; room_in = pre.room; counts_in = own.counts_in; ranges_in = own.ranges_in };
    }

pub fire-requires : goal.fire-requires
fire-requires c =
    record { settled = c.requires.settled; draws = c.requires.draws; room = c.requires.room }

pub report-requires : goal.report-requires
report-requires c =
    record { settled = c.requires.settled; room = c.requires.room }

pub fetch-requires : goal.fetch-requires
fetch-requires c =
    c.requires.room

pub announce-requires : goal.announce-requires
announce-requires c =
    record { settled = c.requires.settled; room = c.requires.room }

pub returns-in-Moves : goal.returns-in-Moves
returns-in-Moves c = rw c.in-Moves.is (record { value = sym c.moved-stepped.ensures; out_after = move-quiet _ c.args.e.now _ })

pub returns-in-Send : goal.returns-in-Send
returns-in-Send c = rw c.in-Send.is (record { value = c.send.ensures.value; out_after = c.send.ensures.out_after })

pub returns-in-Arrival : goal.returns-in-Arrival
returns-in-Arrival c = rw c.in-Arrival.is (record { value = c.arrival.ensures.value; out_after = c.arrival.ensures.out_after })

pub returns-in-Fire : goal.returns-in-Fire
returns-in-Fire c = rw c.in-Fire.is (record { value = c.fire.ensures.value; out_after = c.fire.ensures.out_after })

pub returns-in-Report : goal.returns-in-Report
returns-in-Report c = rw c.in-Report.is (record { value = c.report.ensures.value; out_after = c.report.ensures.out_after })

pub returns-in-Fetch : goal.returns-in-Fetch
returns-in-Fetch c = rw c.in-Fetch.is (record { value = c.fetch.ensures.value; out_after = c.fetch.ensures.out_after })

pub returns-in-Announce : goal.returns-in-Announce
returns-in-Announce c = rw c.in-Announce.is (record { value = c.announce.ensures.value; out_after = c.announce.ensures.out_after })
