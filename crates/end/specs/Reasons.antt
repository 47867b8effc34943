-- Why a message about a name is ignored: document 02, P3, each reason that lies in the name's source as a test, and the order of all eleven. A
-- message is ignored for the first of them that holds, and only if one does. The reason of any event, by the same list: Why.antt.
use Rattle.std.specs.Prelude.{◌≡◌, ℕ, Bool, true, false, cond, not, ◌&&◌, List, [], ◌∷◌, ◌++◌, ltb, leb}
use Rattle.std.proofs.Math.Option.{Option, none, some}
use Rattle.message.specs.Question.{same_host}
use Rattle.end.specs.declared.Slot.{Slot}
use Rattle.end.specs.declared.Slot.TheVariants.{Empty, Held, Waiting}
use Rattle.end.specs.declared.Record.{Record}
use Rattle.end.specs.Parts.{Span, Closed}
use Rattle.end.specs.declared.Moment.{Moment}
use Rattle.end.specs.declared.Says.{Says}
use Rattle.end.specs.declared.Says.TheVariants.{Data, Rqst, Repl, Xprs}
use Rattle.end.specs.declared.Word.{Word}
use Rattle.end.specs.declared.Reason.{Reason}
use Rattle.end.specs.declared.Reason.TheVariants.{Crashed, WrongStatus, OwnMessage, NotOpen, BelowFirst, OwnAboveLast, AlreadyHeld, ReplyWaiting, ReplyQuiet, RequestQuiet, NoFetch}
use Rattle.end.specs.declared.Decision.{Decision}
use Rattle.end.specs.declared.Decision.TheVariants.{Ignores, Opens, Takes, Repairs, Hushes, Replies, Learns, BacksOff, Clashes, Expresses}
use Rattle.end.specs.Records.{is_closed, is_below, is_above, is_held, is_no, reply_in}
use Rattle.end.specs.Decide.{number, same_cue, at_once, decide_as}

abbrev pub is_data : Says → Bool
is_data Data = true
is_data Rqst = false
is_data Repl = false
is_data Xprs = false

abbrev pub is_request : Says → Bool
is_request Data = false
is_request Rqst = true
is_request Repl = false
is_request Xprs = true

-- an XPRS that the named sender answers at once is not ignored (document 02, P8)
abbrev pub answered : Says → Moment → Word → Record → Bool
answered Data t w r = false
answered Rqst t w r = false
answered Repl t w r = false
answered Xprs t w r = at_once t w r

-- the quiet time of the request is not over; in a sound state a name up to last that is not held has one
abbrev pub is_quiet : ℕ → Slot → Bool
is_quiet clock Empty = true
is_quiet clock (Held reply) = true
is_quiet clock (Waiting q x) = leb clock q.quiet

-- ---- the reasons that lie in the name's source, each a sentence about what the reader has of the name: `x` is first and last of its
-- source, `r` its record

-- "source not open (RQST, REPL)"
abbrev pub source_not_open : Says → Span → Bool
source_not_open says x = not (is_data says) && is_closed x

-- "below first (DATA, RQST, REPL)"
abbrev pub below_first : Word → Span → Bool
below_first w x = is_below x (number w)

-- "own number above last (RQST, REPL)"
abbrev pub own_number_above_last : Says → Moment → Word → Span → Bool
own_number_above_last says t w x = not (is_data says) && (same_host w.name.source t.me && is_above x (number w))

-- "already held (DATA)": with P4, held with the same bytes
abbrev pub already_held : Says → Word → Record → Bool
already_held says w r = is_data says && (is_held r.slot && same_cue w.cue r.cue)

-- "reply waiting, then reply-quiet (RQST of a held cue)"
abbrev pub reply_waiting : Says → Moment → Word → Record → Bool
reply_waiting says t w r = is_request says && (not (answered says t w r) && (is_held r.slot && not (is_no (reply_in r.slot))))

abbrev pub reply_quiet : Says → Moment → Record → Bool
reply_quiet says t r = is_request says && (is_held r.slot && ltb t.clock r.hush)

-- "request quiet (RQST of a cue not held, up to last)"
abbrev pub request_quiet : Says → Moment → Word → Record → Span → Bool
request_quiet says t w r x = is_request says && (not (is_held r.slot) && (not (is_above x (number w)) && is_quiet t.clock r.slot))

-- whether a reason lies in the name's source; the first three and the last lie elsewhere (Why.antt)
abbrev pub holds : Says → Moment → Word → Record → Span → Reason → Bool
holds says t w r x Crashed = false
holds says t w r x WrongStatus = false
holds says t w r x OwnMessage = false
holds says t w r x NotOpen = source_not_open says x
holds says t w r x BelowFirst = below_first w x
holds says t w r x OwnAboveLast = own_number_above_last says t w x
holds says t w r x AlreadyHeld = already_held says w r
holds says t w r x ReplyWaiting = reply_waiting says t w r
holds says t w r x ReplyQuiet = reply_quiet says t r
holds says t w r x RequestQuiet = request_quiet says t w r x
holds says t w r x NoFetch = false

-- ---- the list, in document 02's order: those of a message about a name, and all eleven; P9: "a last reason"
abbrev pub name_reasons : List Reason
name_reasons = NotOpen ∷ BelowFirst ∷ OwnAboveLast ∷ AlreadyHeld ∷ ReplyWaiting ∷ ReplyQuiet ∷ RequestQuiet ∷ []

abbrev pub reasons : List Reason
reasons = Crashed ∷ WrongStatus ∷ OwnMessage ∷ (name_reasons ++ (NoFetch ∷ []))

abbrev pub first_that : (Reason → Bool) → List Reason → Option Reason
first_that f [] = none
first_that f (why ∷ l) = cond (f why) (some why) (first_that f l)

-- P4, of Clash: "The reason call gives "none" for it."
abbrev pub reason_of : Decision → Option Reason
reason_of (Ignores why) = some why
reason_of Opens = none
reason_of Takes = none
reason_of Repairs = none
reason_of Hushes = none
reason_of Replies = none
reason_of Learns = none
reason_of (BacksOff k) = none
reason_of Clashes = none
reason_of Expresses = none

-- In a sound state a closed source holds nothing.
abbrev pub IgnoredForTheFirstReason : Type 0
IgnoredForTheFirstReason = (t : Moment) (w : Word) (r : Record) (x : Span) → (x ≡ Closed → is_held r.slot ≡ false)
    → reason_of (decide_as w.says t w r x) ≡ first_that (holds w.says t w r x) name_reasons
