-- Why an event would be Ignored: document 02, P3. "A new call takes a state and an event and gives the first that holds of: crashed; wrong
-- status; own message; source not open (RQST, REPL); .." Each reason is a test of the end, the clock and the event; the order is the list
-- `reasons` (Reasons.antt). What is said of the call stands below, as statements.
use Rattle.std.specs.Prelude.{◌≡◌, ℕ, ◌≤◌, ◌<◌, Bool, true, false, cond, not, List, [], ◌∷◌, ◌++◌, length, eqb}
use Rattle.std.proofs.Math.Option.{Option, none, some}
use Rattle.message.specs.declared.Host.{Host}
use Rattle.message.specs.Limit.{room_needed}
use Rattle.message.specs.Message.{FTCH, LATE, Meaning, Datagram, Probe, Saying, datagram_from}
use Rattle.message.specs.Question.{first_no, same_host}
use Rattle.end.specs.declared.Status.{Status}
use Rattle.end.specs.declared.Word.{Word}
use Rattle.end.specs.declared.Reason.{Reason}
use Rattle.end.specs.declared.Reason.TheVariants.{Crashed, WrongStatus, OwnMessage, NotOpen, BelowFirst, OwnAboveLast, AlreadyHeld, ReplyWaiting, ReplyQuiet, RequestQuiet, NoFetch}
use Rattle.end.specs.declared.Why.{Why}
use Rattle.end.specs.declared.Why.TheVariants as why
use Rattle.end.specs.declared.End.{End}
use Rattle.end.specs.State.{source_at, is_member, is_crashed, moment_of, with_clock}
use Rattle.end.specs.Round.{draw_count}
use Rattle.end.specs.Answer.{Effect, Out, Got, Done, Ignored, Nothing, Clash, Late, Exhausted, Outcome, Refused, Did}
use Rattle.end.specs.Decide.{known}
use Rattle.end.specs.Reasons.{holds, reasons, first_that}
use Rattle.end.specs.Fetch.{may_fetch, may_answer, may_hand}
use Rattle.end.specs.Arrival.{named_in}
use Rattle.end.specs.Event.{Other, Fire, Report, Announce, Fetch, Action, Moves, Send, Arrival, Else, moves, state_questions, own_questions, event_of}

-- ---- the reasons

-- "wrong status": a move "from any other status"; "Send, Fire, Report, Arrival outside membership", a Fetch (P9) and an Announce (P11)
abbrev pub wrong_status : Action → Status → Bool
wrong_status (Moves m) status = not (moves m status)
wrong_status (Send cue) status = not (is_member status)
wrong_status (Arrival bytes) status = not (is_member status)
wrong_status (Else o) status = not (is_member status)

-- "own message": "an arrival whose sender is oneself"; a probe has no sender
abbrev pub is_own : Datagram Meaning → Host → Bool
is_own Probe me = false
is_own (Saying m) me = same_host m.sender me

abbrev pub own_message : Action → Host → Bool
own_message (Moves m) me = false
own_message (Send cue) me = false
own_message (Arrival bytes) me = is_own (datagram_from bytes) me
own_message (Else o) me = false

-- what an event says about a name that a decision is made on: only an arrival of a DATA, RQST, REPL or XPRS does
abbrev pub named_of : Datagram Meaning → End → Option Word
named_of Probe e = none
named_of (Saying m) e = named_in m e

abbrev pub named_by : Action → End → Option Word
named_by (Moves m) e = none
named_by (Send cue) e = none
named_by (Arrival bytes) e = named_of (datagram_from bytes) e
named_by (Else o) e = none

-- document 02, P9: "any other fetch, or one already handed out, is Ignored"; of the kinds 22 and 23, "All else is Ignored, for a last reason "no
-- fetch"."
abbrev pub no_fetch_in : Meaning → End → Bool
no_fetch_in m e = cond (eqb m.kind FTCH) (not (may_answer e m)) (cond (eqb m.kind LATE) (not (may_hand e m)) false)

abbrev pub no_fetch_of : Datagram Meaning → End → Bool
no_fetch_of Probe e = false
no_fetch_of (Saying m) e = no_fetch_in m e

abbrev pub no_fetch_for : Other → End → Bool
no_fetch_for Fire e = false
no_fetch_for Report e = false
no_fetch_for Announce e = false
no_fetch_for (Fetch name) e = not (may_fetch e name)

abbrev pub no_fetch : Action → End → Bool
no_fetch (Moves m) e = false
no_fetch (Send cue) e = false
no_fetch (Arrival bytes) e = no_fetch_of (datagram_from bytes) e
no_fetch (Else o) e = no_fetch_for o e

-- a reason that lies in the name's source, at the end's clock
abbrev pub holds_of : End → Reason → Option Word → Bool
holds_of e why none = false
holds_of e why (some w) = let s = source_at e w.name.source in holds w.says (moment_of e) w (known w s) s.span why

abbrev pub in_source : End → ℕ → Action → Reason → Bool
in_source e clock a why = holds_of (with_clock e clock) why (named_by a (with_clock e clock))

-- each reason, of an event at a clock
abbrev pub reason_holds : End → ℕ → Action → Reason → Bool
reason_holds e clock a Crashed = is_crashed e.status
reason_holds e clock a WrongStatus = wrong_status a e.status
reason_holds e clock a OwnMessage = own_message a e.host
reason_holds e clock a NotOpen = in_source e clock a NotOpen
reason_holds e clock a BelowFirst = in_source e clock a BelowFirst
reason_holds e clock a OwnAboveLast = in_source e clock a OwnAboveLast
reason_holds e clock a AlreadyHeld = in_source e clock a AlreadyHeld
reason_holds e clock a ReplyWaiting = in_source e clock a ReplyWaiting
reason_holds e clock a ReplyQuiet = in_source e clock a ReplyQuiet
reason_holds e clock a RequestQuiet = in_source e clock a RequestQuiet
reason_holds e clock a NoFetch = no_fetch a (with_clock e clock)

-- ---- the call

-- "An event that would be refused as 3 to 11 yields that number." There is neither output nor draws, so 1 and 2 are not asked
abbrev pub refused_as : End → ℕ → Action → ℕ
refused_as e clock a = first_no (state_questions e clock ++ own_questions a e)

-- "gives the first that holds of .."; "It gives "none" .." otherwise
abbrev pub because : Option Reason → Why
because none = why.NoReason
because (some reason) = why.Because reason

unfoldable pub why_of : End → ℕ → Action → Why
why_of e clock a = cond (eqb (refused_as e clock a) 0) (because (first_that (reason_holds e clock a) reasons)) (why.Refused (refused_as e clock a))

-- ---- its number and words

-- a reason's place in document 02's list, from 1
abbrev pub reason_number : Reason → ℕ
reason_number Crashed = 1
reason_number WrongStatus = 2
reason_number OwnMessage = 3
reason_number NotOpen = 4
reason_number BelowFirst = 5
reason_number OwnAboveLast = 6
reason_number AlreadyHeld = 7
reason_number ReplyWaiting = 8
reason_number ReplyQuiet = 9
reason_number RequestQuiet = 10
reason_number NoFetch = 11

-- a reason's words, as characters' ASCII codes
abbrev pub reason_words : Reason → List ℕ
-- "crashed"
reason_words Crashed = 99 ∷ 114 ∷ 97 ∷ 115 ∷ 104 ∷ 101 ∷ 100 ∷ []
-- "wrong status"
reason_words WrongStatus = 119 ∷ 114 ∷ 111 ∷ 110 ∷ 103 ∷ 32 ∷ 115 ∷ 116 ∷ 97 ∷ 116 ∷ 117 ∷ 115 ∷ []
-- "own message"
reason_words OwnMessage = 111 ∷ 119 ∷ 110 ∷ 32 ∷ 109 ∷ 101 ∷ 115 ∷ 115 ∷ 97 ∷ 103 ∷ 101 ∷ []
-- "source not open"
reason_words NotOpen = 115 ∷ 111 ∷ 117 ∷ 114 ∷ 99 ∷ 101 ∷ 32 ∷ 110 ∷ 111 ∷ 116 ∷ 32 ∷ 111 ∷ 112 ∷ 101 ∷ 110 ∷ []
-- "below first"
reason_words BelowFirst = 98 ∷ 101 ∷ 108 ∷ 111 ∷ 119 ∷ 32 ∷ 102 ∷ 105 ∷ 114 ∷ 115 ∷ 116 ∷ []
-- "own number above last"
reason_words OwnAboveLast = 111 ∷ 119 ∷ 110 ∷ 32 ∷ 110 ∷ 117 ∷ 109 ∷ 98 ∷ 101 ∷ 114 ∷ 32 ∷ 97 ∷ 98 ∷ 111 ∷ 118 ∷ 101 ∷ 32 ∷ 108 ∷ 97 ∷ 115 ∷ 116 ∷ []
-- "already held"
reason_words AlreadyHeld = 97 ∷ 108 ∷ 114 ∷ 101 ∷ 97 ∷ 100 ∷ 121 ∷ 32 ∷ 104 ∷ 101 ∷ 108 ∷ 100 ∷ []
-- "reply waiting"
reason_words ReplyWaiting = 114 ∷ 101 ∷ 112 ∷ 108 ∷ 121 ∷ 32 ∷ 119 ∷ 97 ∷ 105 ∷ 116 ∷ 105 ∷ 110 ∷ 103 ∷ []
-- "reply-quiet"
reason_words ReplyQuiet = 114 ∷ 101 ∷ 112 ∷ 108 ∷ 121 ∷ 45 ∷ 113 ∷ 117 ∷ 105 ∷ 101 ∷ 116 ∷ []
-- "request quiet"
reason_words RequestQuiet = 114 ∷ 101 ∷ 113 ∷ 117 ∷ 101 ∷ 115 ∷ 116 ∷ 32 ∷ 113 ∷ 117 ∷ 105 ∷ 101 ∷ 116 ∷ []
-- "no fetch"
reason_words NoFetch = 110 ∷ 111 ∷ 32 ∷ 102 ∷ 101 ∷ 116 ∷ 99 ∷ 104 ∷ []

-- document 01's number of what the call gives, 0 where the event would not be refused
abbrev pub why_refusal : Why → ℕ
why_refusal (why.Refused k) = k
why_refusal (why.Because reason) = 0
why_refusal why.NoReason = 0

-- ---- what is said of it

abbrev pub is_ignored : Effect → Bool
is_ignored (Out bytes) = false
is_ignored (Got name cue) = false
is_ignored Done = false
is_ignored Ignored = true
is_ignored Nothing = false
is_ignored (Clash name) = false
is_ignored (Late name cue) = false
is_ignored Exhausted = false

-- "The reason named is shown true and those before it false"
abbrev pub ReasonIsFirst : Type 0
ReasonIsFirst = (e : End) (clock : ℕ) (a : Action) (reason : Reason) → why_of e clock a ≡ why.Because reason
    → (reason_holds e clock a reason ≡ true) × ((other : Reason) → reason_number other < reason_number reason → reason_holds e clock a other ≡ false)

-- and where "none" is given, none of the eleven holds
abbrev pub NoneHolds : Type 0
NoneHolds = (e : End) (clock : ℕ) (a : Action) → why_of e clock a ≡ why.NoReason → (reason : Reason) → reason_holds e clock a reason ≡ false

-- what the event gives, with an output and draws as they must be
abbrev pub Gives : End → ℕ → Action → (Outcome → Type 0) → Type 0
Gives e clock a P = (room : ℕ) (draws : List ℕ) → room_needed ≤ room → length draws ≡ draw_count → P (event_of e a clock room draws).outcome

-- "An event that would be refused as 3 to 11 yields that number.": exactly where the event is refused with that number
abbrev pub NumberExactly : Type 0
NumberExactly = (e : End) (clock : ℕ) (a : Action) (k : ℕ) → Gives e clock a (λ o. (why_of e clock a ≡ why.Refused k → o ≡ Refused k) × (o ≡ Refused k → why_of e clock a ≡ why.Refused k))

-- one of the eleven is named exactly where the event is Ignored
abbrev pub ReasonExactly : Type 0
ReasonExactly = (e : End) (clock : ℕ) (a : Action)
    → Gives e clock a (λ o. ((reason : Reason) → why_of e clock a ≡ why.Because reason → o ≡ Did Ignored) × (o ≡ Did Ignored → (reason : Reason) × (why_of e clock a ≡ why.Because reason)))

-- "It gives "none" exactly where the event would be neither refused nor Ignored."
abbrev pub NoneExactly : Type 0
NoneExactly = (e : End) (clock : ℕ) (a : Action)
    → Gives e clock a (λ o. (why_of e clock a ≡ why.NoReason → (x : Effect) × (o ≡ Did x) × (is_ignored x ≡ false)) × ((x : Effect) → o ≡ Did x → is_ignored x ≡ false → why_of e clock a ≡ why.NoReason))
