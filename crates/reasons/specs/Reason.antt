-- Why an event that is not refused is ignored, as the code finds it: crashed, wrong status, of an arrival what the message's reason is, and of
-- a fetch that it may not be made.
use Rattle.std.specs.Prelude.{◌≡◌, ◌-◌, Bool, true, cond}
use Rattle.std.proofs.Math.Option.{Option, none, some}
use Rattle.message.specs.declared.Message.{Message}
use Rattle.message.specs.declared.Name.{Name}
use Rattle.message.specs.Limit.{number_limit}
use Rattle.message.specs.Message.{Meaning, meaning_of}
use Rattle.message.specs.Question.{in_range}
use Rattle.end.specs.declared.Status.{Status}
use Rattle.end.specs.declared.Reason.{Reason}
use Rattle.end.specs.declared.Reason.TheVariants.{Crashed, WrongStatus, NoFetch}
use Rattle.end.specs.declared.Event.{Event}
use Rattle.end.specs.declared.Event.TheVariants.{Moves, Send, Arrival, Fire, Report, Fetch, Announce}
use Rattle.end.specs.declared.End.{End}
use Rattle.end.specs.State.{is_member, is_crashed}
use Rattle.end.specs.Event.{moves}
use Rattle.end.specs.Fetch.{may_fetch}
use Rattle.receive.specs.Reason.{reason_for}

-- the status lets the end do what the event asks
abbrev pub suits : Event → Status → Bool
suits (Moves m) status = moves m status
suits Send status = is_member status
suits Arrival status = is_member status
suits Fire status = is_member status
suits Report status = is_member status
suits (Fetch name) status = is_member status
suits Announce status = is_member status

-- the message of an arrival has passed question 10
abbrev pub Heard : Event → Message → Type 0
Heard (Moves m) message = Unit {0}
Heard Send message = Unit {0}
Heard Arrival message = in_range (number_limit - 1) (meaning_of message) ≡ true
Heard Fire message = Unit {0}
Heard Report message = Unit {0}
Heard (Fetch name) message = Unit {0}
Heard Announce message = Unit {0}

abbrev pub fetch_reason : Name → End → Option Reason
fetch_reason name e = cond (may_fetch e name) none (some NoFetch)

abbrev pub member_reason : Event → Meaning → End → Option Reason
member_reason (Moves m) M e = none
member_reason Send M e = none
member_reason Arrival M e = reason_for M e
member_reason Fire M e = none
member_reason Report M e = none
member_reason (Fetch name) M e = fetch_reason name e
member_reason Announce M e = none

abbrev pub first_reason : Event → Meaning → End → Option Reason
first_reason what M e = cond (is_crashed e.status) (some Crashed) (cond (suits what e.status) (member_reason what M e) (some WrongStatus))
