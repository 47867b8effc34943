-- How requests back off, as statements; proofs/Slots and BackOff prove them. Document 01, "Events": "Setting round k at
-- clock t", "RQST", "Fire". A request that waits is named without the express wait that may stand beside it: all of this holds with and
-- without one. What becomes of the express wait is in `SlotsMayBecome`, and in Express.antt.
use Rattle.std.specs.Prelude.{◌≡◌, Bool, true, false, ◌||◌, List, [], ◌∷◌, ◌⊎◌, ℕ, ◌+◌, ◌*◌, ◌≤◌, ◌<◌, length, eqb}
use Rattle.std.proofs.Math.Option.{some}
use Rattle.message.specs.declared.Host.{Host}
use Rattle.message.specs.Entry.{as_host}
use Rattle.message.specs.Message.{RQST, XPRS, meaning_from}
use Rattle.end.specs.declared.Params.{Params}
use Rattle.end.specs.declared.Request.{Request}
use Rattle.end.specs.Parts.{Express, Unset, Pair}
use Rattle.end.specs.declared.End.{End}
use Rattle.end.specs.declared.Moment.{Moment}
use Rattle.end.specs.State.{blank_record, source_at, distance_to, with_clock}
use Rattle.end.specs.Records.{is_below, is_held}
use Rattle.end.specs.Sound.{time_limit, sound_of}
use Rattle.end.specs.Round.{Drawn, factor, request_at}
use Rattle.end.specs.Answer.{Out, Ignored, Did}
use Rattle.end.specs.Arrival.{message_name}
use Rattle.end.specs.Event.{Action, Moves, Send, Arrival, Else, question_of, event_of}
use Rattle.end.specs.Opening.{opening_of}
use Rattle.end.specs.Run.{CueArray}
use Rattle.guarantees.specs.Calls.{moment_at, OneCall, after, after_all}
use Rattle.guarantees.specs.Records.{record_of, slot_of, request_of, clearing, firing, SpanMayBecome, retired, Cause, MayBecome}
use Rattle.guarantees.specs.Arrivals.{hear, express_by}
use Rattle.guarantees.specs.Fires.{fire, FireTaken}

-- Every call of every event changes first and last of a source only as `SpanMayBecome` says.
abbrev pub SpansMayBecome : Type 0
SpansMayBecome = (e : End) (a : Action) (clock room : ℕ) (draws : List ℕ) (h : ℕ) → h < 8
    → SpanMayBecome (clearing a) (source_at e (as_host h)).span (source_at (event_of e a clock room draws).left (as_host h)).span

-- Of a number that it retires nothing is left: no cue, no request, no reply, no reply-quiet time.
abbrev pub RetiredAreGone : Type 0
RetiredAreGone = (e : End) (a : Action) (clock room : ℕ) (draws : List ℕ) (h n : ℕ)
    → retired e (event_of e a clock room draws).left h n ≡ true → record_of (event_of e a clock room draws).left h n ≡ blank_record

-- the express wait that a call sets beside a new request of source h: only a message that arrives sets one
abbrev pub express_for : Moment → Action → ℕ → Pair → Express
express_for t (Moves m) h pair = Unset
express_for t (Send cue) h pair = Unset
express_for t (Arrival bytes) h pair = express_by t (meaning_from bytes) h pair
express_for t (Else o) h pair = Unset

-- what a call is to the slots of source h, of which this pair is kept
abbrev pub cause_of : Moment → Action → ℕ → Pair → Cause
cause_of t a h pair = record { empties = clearing a; fires = firing a; express = express_for t a h pair }

-- Every other slot it changes only as `MayBecome` says.
abbrev pub SlotsMayBecome : Type 0
SlotsMayBecome = (e : End) (a : Action) (clock room : ℕ) (draws : List ℕ) (h n : ℕ) → h < 8
    → retired e (event_of e a clock room draws).left h n ≡ false
    → MayBecome (cause_of (moment_at e clock) a h (source_at e (as_host h)).pair) (moment_at e clock) draws (distance_to e (as_host h)) n
    (slot_of e h n) (slot_of (event_of e a clock room draws).left h n)

-- So a name that waits goes on waiting or gets its cue, with every call but Leave and Crash, until it is retired.
abbrev pub WaitsUntilHeld : Type 0
WaitsUntilHeld = (e : End) (a : Action) (clock room : ℕ) (draws : List ℕ) (h n : ℕ) (q : Request) → h < 8 → clearing a ≡ false → request_of e h n ≡ some q
    → retired e (event_of e a clock room draws).left h n ≡ false
    → ((p : Request) × (request_of (event_of e a clock room draws).left h n ≡ some p)) ⊎ (is_held (slot_of (event_of e a clock room draws).left h n) ≡ true)

-- And a held cue stays held, and stays the same, with every call but Leave and Crash, until it is retired: and it is retired only by a rise.
abbrev pub HeldUntilCleared : Type 0
HeldUntilCleared = (e : End) (a : Action) (clock room : ℕ) (draws : List ℕ) (h n : ℕ) → h < 8 → clearing a ≡ false → is_held (slot_of e h n) ≡ true
    → retired e (event_of e a clock room draws).left h n ≡ false
    → (is_held (slot_of (event_of e a clock room draws).left h n) ≡ true) × ((record_of (event_of e a clock room draws).left h n).cue ≡ (record_of e h n).cue)

-- none of the calls is Leave or Crash
abbrev pub NoneClears : List OneCall → Type 0
NoneClears [] = Unit {0}
NoneClears (c ∷ cs) = (clearing c.action ≡ false) × NoneClears cs

-- Both through any such calls, as long as first has not passed the number.
abbrev pub WaitsOrHeldThrough : Type 0
WaitsOrHeldThrough = (cs : List OneCall) (e : End) (h n : ℕ) (q : Request) → h < 8 → NoneClears cs → request_of e h n ≡ some q
    → is_below (source_at (after_all e cs) (as_host h)).span n ≡ false
    → ((p : Request) × (request_of (after_all e cs) h n ≡ some p)) ⊎ (is_held (slot_of (after_all e cs) h n) ≡ true)

abbrev pub HeldThrough : Type 0
HeldThrough = (cs : List OneCall) (e : End) (h n : ℕ) → h < 8 → NoneClears cs → is_held (slot_of e h n) ≡ true
    → is_below (source_at (after_all e cs) (as_host h)).span n ≡ false
    → (is_held (slot_of (after_all e cs) h n) ≡ true) × ((record_of (after_all e cs) h n).cue ≡ (record_of e h n).cue)

-- On a sound end, while a name waits, its round never falls, and rises by at most one with a call, up to 16.
abbrev pub RoundsRise : Type 0
RoundsRise = (e : End) (a : Action) (clock room : ℕ) (draws : List ℕ) (h n : ℕ) (q p : Request) → sound_of e ≡ true → h < 8
    → request_of e h n ≡ some q → request_of (event_of e a clock room draws).left h n ≡ some p
    → (q.round ≤ p.round) × (p.round ≤ q.round + 1) × (p.round ≤ 16)

-- A request that is set by a call, on a sound end, at the call's clock: round 1 to 16, and due from F×C1×d to F×(C1+C2)×d after the
-- clock, where d is the distance to the source before the call.
pub record SetNow (e : End) (clock : ℕ) (draws : List ℕ) (h n : ℕ) (p : Request) : Type 0 where
  pub sound : sound_of e ≡ true
  pub least : 1 ≤ p.round
  pub most : p.round ≤ 16
  pub is : p ≡ request_at (moment_at e clock) draws (distance_to e (as_host h)) n p.round
  pub not-before : clock + factor p.round * e.params.c1 * distance_to e (as_host h) ≤ p.due
  pub not_after : p.due ≤ clock + factor p.round * (e.params.c1 + e.params.c2) * distance_to e (as_host h)

-- A request that waits after a call was waiting before it, the very same, or is set now. The draws have their declared type.
abbrev pub SetOrKept : Type 0
SetOrKept = (e : End) (a : Action) (clock room : ℕ) (draws : List ℕ) (h n : ℕ) (p : Request) → Drawn draws → h < 8
    → request_of (event_of e a clock room draws).left h n ≡ some p → (request_of e h n ≡ some p) ⊎ SetNow e clock draws h n p

-- the kinds by which a cue is asked for
abbrev pub asks_for : ℕ → Bool
asks_for kind = eqb kind RQST || eqb kind XPRS

-- Up to quiet-until a heard request for a name that waits is Ignored, and nothing but the clock changes.
abbrev pub QuietIgnores : Type 0
QuietIgnores = (e : End) (bytes : List ℕ) (clock room : ℕ) (draws : List ℕ) (q : Request)
    → question_of e (Arrival bytes) clock room (length draws) ≡ 0 → asks_for (meaning_from bytes).kind ≡ true
    → request_of e (message_name (meaning_from bytes)).source.0 (message_name (meaning_from bytes)).number.0 ≡ some q → clock ≤ q.quiet
    → hear e bytes clock room draws ≡ record { outcome = Did Ignored; left = with_clock e clock }

-- ---- at most once in a quiet time

-- a call with bytes that arrive, and the end after such calls one after the other
pub record Hearing : Type 0 where
  pub bytes : List ℕ
  pub clock : ℕ
  pub room : ℕ
  pub draws : List ℕ

abbrev pub heard_all : End → List Hearing → End
heard_all e [] = e
heard_all e (x ∷ xs) = heard_all (hear e x.bytes x.clock x.room x.draws).left xs

-- none of them is later than t
abbrev pub AllBy : ℕ → List Hearing → Type 0
AllBy t [] = Unit {0}
AllBy t (x ∷ xs) = (x.clock ≤ t) × AllBy t xs

-- However many requests and other bytes arrive up to its quiet-until, a request that waits stays the very same, or gives way to its cue, as
-- long as first has not passed its number: once it has backed off, it does not back off again in its quiet time.
abbrev pub OncePerQuiet : Type 0
OncePerQuiet = (e : End) (h n : ℕ) (q : Request) → h < 8 → request_of e h n ≡ some q → (xs : List Hearing) → AllBy q.quiet xs
    → is_below (source_at (heard_all e xs) (as_host h)).span n ≡ false
    → (request_of (heard_all e xs) h n ≡ some q) ⊎ (is_held (slot_of (heard_all e xs) h n) ≡ true)

-- A request that waits always has a due time, below 2^48+2^32; and from then on Fire of the member puts something out. A due time from
-- 2^48 on is never reached, since no clock is that late. What goes out may be an earlier wait; by `OneLessDue` this one follows after at
-- most 1,023 others.
abbrev pub AlwaysDue : Type 0
AlwaysDue = (e : End) (h n : ℕ) (q : Request) → sound_of e ≡ true → h < 8 → request_of e h n ≡ some q
    → (q.due < time_limit)
    × ((clock room : ℕ) (draws : List ℕ) → FireTaken e clock room draws → q.due ≤ clock
    → (bytes : List ℕ) × ((fire e clock room draws).outcome ≡ Did (Out bytes)))

-- ---- through lists of calls

-- after each of the calls the name still waits
abbrev pub WaitsThrough : ℕ → ℕ → End → List OneCall → Type 0
WaitsThrough h n e [] = Unit {0}
WaitsThrough h n e (c ∷ cs) = ((q : Request) × (request_of (after e c) h n ≡ some q)) × WaitsThrough h n (after e c) cs

-- Through any calls, as long as a name waits, from a round up to 16 (every sound end), its round never falls, rises by at most one for
-- each call, and never passes 16.
abbrev pub RoundsThrough : Type 0
RoundsThrough = (cs : List OneCall) (e : End) (h n : ℕ) (q p : Request) → h < 8 → q.round ≤ 16 → request_of e h n ≡ some q → WaitsThrough h n e cs
    → request_of (after_all e cs) h n ≡ some p → (q.round ≤ p.round) × (p.round ≤ q.round + length cs) × (p.round ≤ 16)

-- one of the calls set the request, which waits after that call
abbrev pub SetIn : ℕ → ℕ → Request → End → List OneCall → Type 0
SetIn h n p e [] = ⊥
SetIn h n p e (c ∷ cs) = (SetNow e c.clock c.draws h n p × (request_of (after e c) h n ≡ some p)) ⊎ SetIn h n p (after e c) cs

abbrev pub DrawsFit : List OneCall → Type 0
DrawsFit [] = Unit {0}
DrawsFit (c ∷ cs) = Drawn c.draws × DrawsFit cs

-- After any calls on an end that was opened, every request that waits was set by one of them, and its due time lies within the bounds
-- of `SetNow` from that call's clock.
abbrev pub AlwaysSet : Type 0
AlwaysSet = (me : Host) (params : Params) (cs : List OneCall) (h n : ℕ) (p : Request) → DrawsFit cs → h < 8
    → request_of (after_all (opening_of me params).end cs) h n ≡ some p → SetIn h n p (opening_of me params).end cs

-- a cue that is sent has the 24 bytes of its declared type
abbrev pub CuesAreArrays : List OneCall → Type 0
CuesAreArrays [] = Unit {0}
CuesAreArrays (c ∷ cs) = CueArray c.action × CuesAreArrays cs

-- On such an end the quiet-until of a request lies before its due time.
abbrev pub QuietBeforeDue : Type 0
QuietBeforeDue = (me : Host) (params : Params) (cs : List OneCall) (h n : ℕ) (q : Request) → DrawsFit cs → CuesAreArrays cs → h < 8
    → request_of (after_all (opening_of me params).end cs) h n ≡ some q → q.quiet < q.due

-- none of the calls is later than t
abbrev pub NoneAfter : ℕ → List OneCall → Type 0
NoneAfter t [] = Unit {0}
NoneAfter t (c ∷ cs) = (c.clock ≤ t) × NoneAfter t cs

-- So through any calls up to its quiet-until, Fire among them, a request that still waits is the very same: one round in a quiet time.
-- The quiet-until lies before the due time, as on every opened end (`QuietBeforeDue`); the name waits after each of the calls.
abbrev pub OneRoundPerQuiet : Type 0
OneRoundPerQuiet = (cs : List OneCall) (e : End) (h n : ℕ) (q : Request) → h < 8 → request_of e h n ≡ some q → q.quiet < q.due
    → WaitsThrough h n e cs → NoneAfter q.quiet cs → request_of (after_all e cs) h n ≡ some q
