-- What an end has of a name before and after a call, and what a call may make of it.
use Rattle.std.specs.Prelude.{◌≡◌, Bool, true, false, cond, ◌&&◌, List, ◌⊎◌, ℕ, ◌≤◌, ◌<◌, ltb, leb}
use Rattle.std.proofs.Math.Option.{Option, none, some}
use Rattle.message.specs.declared.Host.{Host}
use Rattle.message.specs.declared.CueNumber.{CueNumber}
use Rattle.message.specs.Entry.{as_host}
use Rattle.end.specs.declared.Request.{Request}
use Rattle.end.specs.Parts.{Express, Unset, Soon, Reply, No, Due, Span, Closed, Open}
use Rattle.end.specs.declared.Slot.{Slot}
use Rattle.end.specs.declared.Slot.TheVariants.{Empty, Held, Waiting}
use Rattle.end.specs.declared.Record.{Record}
use Rattle.end.specs.declared.End.{End}
use Rattle.end.specs.declared.Moment.{Moment}
use Rattle.end.specs.State.{source_at}
use Rattle.end.specs.Records.{record_at, is_held}
use Rattle.end.specs.Round.{request_at, next_round, reply_due}
use Rattle.end.specs.Names.{first_after}
use Rattle.end.specs.Event.{Action, Moves, Send, Arrival, Else, Other, Fire, Report, Announce, Fetch, clears}

-- the record under source h and number n, any number: outside first..last it is blank
abbrev pub record_of : End → ℕ → ℕ → Record
record_of e h n = record_at (source_at e (as_host h)) n

abbrev pub slot_of : End → ℕ → ℕ → Slot
slot_of e h n = (record_of e h n).slot

-- the request that waits in a slot, with or without an express wait beside it
abbrev pub request_in : Slot → Option Request
request_in Empty = none
request_in (Held reply) = none
request_in (Waiting q x) = some q

abbrev pub request_of : End → ℕ → ℕ → Option Request
request_of e h n = request_in (slot_of e h n)

-- Leave or Crash, which clear every name
abbrev pub clearing : Action → Bool
clearing (Moves m) = clears m
clearing (Send cue) = false
clearing (Arrival bytes) = false
clearing (Else o) = false

abbrev pub is_fire : Other → Bool
is_fire Fire = true
is_fire Report = false
is_fire Announce = false
is_fire (Fetch name) = false

abbrev pub firing : Action → Bool
firing (Moves m) = false
firing (Send cue) = false
firing (Arrival bytes) = false
firing (Else o) = is_fire o

-- ---- first, last, and what is retired. Document 02, P7: "when last rises to L, numbers below L−63 are retired with their waits, first becomes
-- the greater of itself and L−63"

-- first and last stay, or last rises and first with it
abbrev pub StayOrRise : CueNumber → CueNumber → CueNumber → CueNumber → Type 0
StayOrRise first last first' last' =
    ((first' ≡ first) × (last' ≡ last)) ⊎ ((last.0 < last'.0) × (first'.0 ≡ first_after first.0 last'.0))

-- From first and last of a source before to those after, by any call. Leave and Crash alone close it; first moves with last, by a rise, and
-- in no other way, and last never falls.
abbrev pub SpanMayBecome : Bool → Span → Span → Type 0
SpanMayBecome emptied Closed y = Unit {0}
SpanMayBecome emptied (Open first last) Closed = emptied ≡ true
SpanMayBecome emptied (Open first last) (Open first' last') = StayOrRise first last first' last'

-- from first and last before to those after: n lay in first..last, last rose, and first passed n
abbrev pub retires : Span → Span → ℕ → Bool
retires Closed y n = false
retires (Open first last) Closed n = false
retires (Open first last) (Open first' last') n = (leb first.0 n && leb n last.0) && (ltb last.0 last'.0 && ltb n first'.0)

-- number n of source h is retired, from an end to the one that a call leaves
abbrev pub retired : End → End → ℕ → ℕ → Bool
retired e left h n = retires (source_at e (as_host h)).span (source_at left (as_host h)).span n

-- ---- what becomes of a slot

-- what a call is, as far as slots go: whether its event is Leave or Crash, whether it is Fire, and the express wait that it sets beside a
-- new request
pub record Cause : Type 0 where
  pub empties : Bool
  pub fires : Bool
  pub express : Express

-- From the express wait beside a request to the one beside the same request after a call: it stays, or it was due and Fire has dropped it.
abbrev pub ExpressStays : Cause → Moment → Express → Express → Type 0
ExpressStays c t Unset y = y ≡ Unset
ExpressStays c t (Soon due) y = (y ≡ Soon due) ⊎ ((c.fires ≡ true) × (due ≤ t.clock) × (y ≡ Unset))

-- From the slot before to the slot after, by any call, with its moment, its draws and the distance d to the source before it, of a number that
-- is not retired. Leave and Crash alone empty such a slot; Send, DATA and REPL may hold a cue in it, and then no reply waits. A request is new
-- in round 1 or 2, and has the call's express wait; one that waits stays as it is, but for an express wait that Fire drops, or, once its
-- quiet-until is past or it is due, gets its next round, timed by this call, and keeps its express wait. A held cue never gives way to a
-- request.
abbrev pub MayBecome : Cause → Moment → List ℕ → ℕ → ℕ → Slot → Slot → Type 0
MayBecome c t us d n Empty Empty = Unit {0}
MayBecome c t us d n Empty (Held reply) = reply ≡ No
MayBecome c t us d n Empty (Waiting q x) = (k : ℕ) × (1 ≤ k) × (k ≤ 2) × (q ≡ request_at t us d n k) × (x ≡ c.express)
MayBecome c t us d n (Held reply) Empty = c.empties ≡ true
MayBecome c t us d n (Held reply) (Held now) = Unit {0}
MayBecome c t us d n (Held reply) (Waiting q x) = ⊥
MayBecome c t us d n (Waiting q x) Empty = c.empties ≡ true
MayBecome c t us d n (Waiting q x) (Held reply) = reply ≡ No
MayBecome c t us d n (Waiting q x) (Waiting p y) =
    ((p ≡ q) × ExpressStays c t x y)
    ⊎ (((q.quiet < t.clock) ⊎ (q.due ≤ t.clock)) × (p ≡ request_at t us d n (next_round q.round)) × (y ≡ x))

-- The same by bytes that arrive, which can do less: `carried` is whether the message is a DATA or REPL of this very name, `asked` whether it
-- is a RQST or XPRS of this very name, `express` the express wait that it sets beside a new request. Nothing is emptied; only the name's own
-- cue is held; a new request is in round 2 if the message is a RQST or XPRS of this very name, and in round 1 otherwise; only a RQST or XPRS
-- of this very name after its quiet-until sets the next round. An express wait stays with its request. What becomes of the reply beside a cue
-- that stays held, `ReplyAs` says.
abbrev pub HeardAs : Moment → List ℕ → ℕ → ℕ → Bool → Bool → Express → Slot → Slot → Type 0
HeardAs t us d n carried asked express Empty Empty = Unit {0}
HeardAs t us d n carried asked express Empty (Held reply) = (carried ≡ true) × (reply ≡ No)
HeardAs t us d n carried asked express Empty (Waiting q x) = (q ≡ request_at t us d n (cond asked 2 1)) × (x ≡ express)
HeardAs t us d n carried asked express (Held reply) Empty = ⊥
HeardAs t us d n carried asked express (Held reply) (Held now) = Unit {0}
HeardAs t us d n carried asked express (Held reply) (Waiting q x) = ⊥
HeardAs t us d n carried asked express (Waiting q x) Empty = ⊥
HeardAs t us d n carried asked express (Waiting q x) (Held reply) = (carried ≡ true) × (reply ≡ No)
HeardAs t us d n carried asked express (Waiting q x) (Waiting p y) =
    ((p ≡ q) ⊎ ((asked ≡ true) × (q.quiet < t.clock) × (p ≡ request_at t us d n (next_round q.round)))) × (y ≡ x)

-- From the waiting reply before to the one after, by bytes that arrive, under a name whose slot and reply-quiet were these: `asked` is
-- whether the message is a RQST or XPRS of this very name, `repaired` whether it is a REPL of this very name with the held cue or an XPRS of
-- it that is answered at once, d is the distance to its sender. A reply begins to wait only by a RQST or XPRS of its name, for a held cue and
-- not before its reply-quiet, due as the rules have it, with the sender as requester. One that waits stays the very same or, by such a REPL
-- or XPRS, goes.
abbrev pub ReplyAs : Moment → List ℕ → ℕ → Host → ℕ → Bool → Bool → Slot → ℕ → Reply → Reply → Type 0
ReplyAs t us d sender n asked repaired slot quiet No No = Unit {0}
ReplyAs t us d sender n asked repaired slot quiet No (Due due requester) =
    (asked ≡ true) × (is_held slot ≡ true) × (quiet ≤ t.clock) × (due ≡ reply_due t us d n) × (requester ≡ sender)
ReplyAs t us d sender n asked repaired slot quiet (Due due requester) No = repaired ≡ true
ReplyAs t us d sender n asked repaired slot quiet (Due due requester) (Due due' requester') = (due' ≡ due) × (requester' ≡ requester)
