-- `reasons::member_reason` meets its contract: only an arrival and a fetch have a reason.
use mathlib.Core.Path.{subst}
use Rattle.end.specs.declared.Event.{Event}
use Rattle.reasons.specs.Reason.{Heard}
use Rattle.reasons.proofs.member_reason.Goals as goal

pub reason-requires : goal.reason-requires
reason-requires c =
    subst (λ (w : Event). Heard w c.args.message) c.in-Arrival.is c.requires

pub returns-in-Moves : goal.returns-in-Moves
returns-in-Moves c = rw c.in-Moves.is

pub returns-in-Send : goal.returns-in-Send
returns-in-Send c = rw c.in-Send.is

pub returns-in-Arrival : goal.returns-in-Arrival
returns-in-Arrival c = rw c.in-Arrival.is c.reason.ensures

pub returns-in-Fire : goal.returns-in-Fire
returns-in-Fire c = rw c.in-Fire.is

pub returns-in-Report : goal.returns-in-Report
returns-in-Report c = rw c.in-Report.is

pub returns-in-Fetch : goal.returns-in-Fetch
returns-in-Fetch c = rw c.in-Fetch.is c.fetch_reason.ensures

pub returns-in-Announce : goal.returns-in-Announce
returns-in-Announce c = rw c.in-Announce.is
