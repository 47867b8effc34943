-- Fire, as statements; proofs/Choice, Slots, Fires and BackOff prove them, each under the statement's name in small letters.
-- Document 01, "Events": "Fire: of all waits with due ≤ clock the earliest; .. None due: Nothing."
use Rattle.std.specs.Prelude.{◌≡◌, true, cond, List, [], ◌∷◌, ℕ, ◌+◌, ◌≤◌, ◌<◌, length, eqb}
use Rattle.message.specs.declared.Host.{Host}
use Rattle.message.specs.declared.CueNumber.{CueNumber}
use Rattle.message.specs.Message.{RQST, REPL, XPRS, meaning_from}
use Rattle.message.specs.Question.{read_of}
use Rattle.message.specs.declared.Verdict.TheVariants.{Accepted}
use Rattle.end.specs.declared.Params.{Params}
use Rattle.end.specs.declared.Slot.TheVariants.{Held}
use Rattle.end.specs.Parts.{Due, Kept, NoWait, First}
use Rattle.end.specs.declared.Wait.{Wait}
use Rattle.end.specs.declared.End.{End}
use Rattle.end.specs.State.{source_at, is_member, with_clock}
use Rattle.end.specs.Records.{record_at}
use Rattle.end.specs.Answer.{Out, Nothing, Did, Result}
use Rattle.end.specs.Arrival.{message_name, message_host}
use Rattle.end.specs.Fire.{express_rank, request_rank, reply_rank, earliest}
use Rattle.end.specs.Event.{Action, Else, Fire, question_of, event_of}
use Rattle.end.specs.Opening.{opening_of}
use Rattle.guarantees.specs.Calls.{OneCall, after_all}
use Rattle.guarantees.specs.Waits.{IsDue, IsEarliest, due_waits}

-- What Fire chooses is due, and no wait that is due comes before it.
abbrev pub ChoiceIsEarliest : Type 0
ChoiceIsEarliest = (e : End) (w : Wait) → earliest e 8 ≡ First w → IsEarliest e w

-- Where it chooses none, none is due.
abbrev pub NoChoiceNoneDue : Type 0
NoChoiceNoneDue = (e : End) → earliest e 8 ≡ NoWait → (w : Wait) → IsDue e w → ⊥

-- a call of Fire
abbrev pub fire : End → ℕ → ℕ → List ℕ → Result
fire e clock room draws = event_of e (Else Fire) clock room draws

-- it is not refused, on a member's end
pub record FireTaken (e : End) (clock room : ℕ) (draws : List ℕ) : Type 0 where
  pub unrefused : question_of e (Else Fire) clock room (length draws) ≡ 0
  pub member : is_member e.status ≡ true

-- as which kind a wait goes out: an express wait as XPRS, a request as RQST, a reply as REPL
abbrev pub kind_for : ℕ → ℕ
kind_for rank = cond (eqb rank express_rank) XPRS (cond (eqb rank request_rank) RQST REPL)

-- Bytes that the reader accepts, and reads as a message about a wait, of the kind that its rank has, with its name; the end is the sender
-- and the clock the stamp. The host that an XPRS names is the sender of the pair that is kept of the source; the host that a REPL names is
-- the requester of the reply that waited.
pub record TellsOf (e : End) (clock : ℕ) (w : Wait) (bytes : List ℕ) : Type 0 where
  pub accepted : (read_of bytes).verdict ≡ Accepted
  pub kind : (meaning_from bytes).kind ≡ kind_for w.rank
  pub name : message_name (meaning_from bytes) ≡ w.name
  pub sender : (meaning_from bytes).sender ≡ e.host
  pub stamp : (meaning_from bytes).stamp ≡ clock
  pub kept : w.rank ≡ express_rank
      → (requester : Host) × (n : CueNumber) × ((source_at e w.name.source).pair ≡ Kept requester (message_host (meaning_from bytes)) n)
  pub requester : w.rank ≡ reply_rank
      → (record_at (source_at e w.name.source) w.name.number.0).slot ≡ Held (Due w.due (message_host (meaning_from bytes)))

-- What goes out is about the earliest wait that is due at the call's clock.
abbrev pub OutIsEarliest : Type 0
OutIsEarliest = (e : End) (clock room : ℕ) (draws bytes : List ℕ) → (fire e clock room draws).outcome ≡ Did (Out bytes)
    → (w : Wait) × IsEarliest (with_clock e clock) w × TellsOf e clock w bytes

-- Nothing is answered only where no wait is due.
abbrev pub NothingMeansNone : Type 0
NothingMeansNone = (e : End) (clock room : ℕ) (draws : List ℕ) → (fire e clock room draws).outcome ≡ Did Nothing → (w : Wait) → IsDue (with_clock e clock) w → ⊥

-- An unrefused Fire of a member with no wait due answers Nothing and sets the clock, no more.
abbrev pub NoneMeansNothing : Type 0
NoneMeansNothing = (e : End) (clock room : ℕ) (draws : List ℕ) → FireTaken e clock room draws → ((w : Wait) → IsDue (with_clock e clock) w → ⊥)
    → fire e clock room draws ≡ record { outcome = Did Nothing; left = with_clock e clock }

-- With a wait due it puts a message out.
abbrev pub DueMeansOut : Type 0
DueMeansOut = (e : End) (clock room : ℕ) (draws : List ℕ) → FireTaken e clock room draws → (w : Wait) → IsDue (with_clock e clock) w
    → (bytes : List ℕ) × ((fire e clock room draws).outcome ≡ Did (Out bytes))

-- C3 < C1 in every end that an opening gives, refused or not; so C1 is 1 or more.
abbrev pub OpenedC3BelowC1 : Type 0
OpenedC3BelowC1 = (h : Host) (p : Params) → (opening_of h p).end.params.c3 < (opening_of h p).end.params.c1

-- No call changes host or parameters.
abbrev pub HostAndParamsStay : Type 0
HostAndParamsStay = (e : End) (a : Action) (clock room : ℕ) (draws : List ℕ)
    → ((event_of e a clock room draws).left.host ≡ e.host) × ((event_of e a clock room draws).left.params ≡ e.params)

-- Each Fire that puts something out leaves one wait less that is due, where C1 is 1 or more: a request beside an express wait that goes
-- out stays, and an express wait beside a request that goes out stays too. (A sound state may have C1 = 0; only an opening asks for C3 < C1.
-- Then a request could be due again at once.)
abbrev pub OneLessDue : Type 0
OneLessDue = (e : End) (clock room : ℕ) (draws bytes : List ℕ) → 1 ≤ e.params.c1 → (fire e clock room draws).outcome ≡ Did (Out bytes)
    → due_waits (fire e clock room draws).left + 1 ≡ due_waits (with_clock e clock)

-- calls of Fire one after the other at one clock, each with draws of its own, of which every one puts something out
abbrev pub AllOut : ℕ → ℕ → End → List (List ℕ) → Type 0
AllOut clock room e [] = Unit {0}
AllOut clock room e (draws ∷ more) =
    ((bytes : List ℕ) × ((fire e clock room draws).outcome ≡ Did (Out bytes))) × AllOut clock room (fire e clock room draws).left more

-- Repeated Fire at one clock ends: at most as many calls put something out as waits were due before the first, and these are at most
-- two, a request and an express wait, for each of the latest 64 numbers of 8 sources. (A sound state may have C1 = 0; only an opening asks
-- for C3 < C1. Then a request could be due again at once.)
abbrev pub FiringEnds : Type 0
FiringEnds = (e : End) (clock room : ℕ) (calls : List (List ℕ)) → 1 ≤ e.params.c1 → AllOut clock room e calls
    → (length calls ≤ due_waits (with_clock e clock)) × (due_waits (with_clock e clock) ≤ 1024)

-- So after any calls on an end that was opened, at most 1,024 calls of Fire in a row at one clock put something out; so the 1,025th
-- unrefused Fire of a member at one clock, at the latest, is Nothing.
abbrev pub OpenedFiringEnds : Type 0
OpenedFiringEnds = (me : Host) (p : Params) (before : List OneCall) (clock room : ℕ) (calls : List (List ℕ))
    → AllOut clock room (after_all (opening_of me p).end before) calls → length calls ≤ 1024
