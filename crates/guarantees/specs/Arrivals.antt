-- Whatever bytes arrive: what they cannot change, and what they can, as statements; proofs/Arrivals.antt proves each. The state and
-- the bytes are any: an unsound state and bytes that are no message are refused, and then nothing changes.
use Rattle.std.specs.Prelude.{◌≡◌, Bool, true, false, cond, not, ◌&&◌, ◌||◌, List, [], ◌∷◌, ◌⊎◌, ℕ, ◌+◌, ◌<◌, length, ltb, leb, eqb}
use Rattle.message.specs.declared.Report.{Report}
use Rattle.message.specs.Entry.{as_host}
use Rattle.message.specs.Message.{DATA, RQST, REPL, XPRS, FTCH, LATE, ANNC, Meaning, meaning_from, bytes_of}
use Rattle.message.specs.Question.{same_host}
use Rattle.end.specs.Parts.{Express, Unset, Soon, Pair, Span, Closed, Open}
use Rattle.end.specs.declared.Record.{Record}
use Rattle.end.specs.declared.End.{End}
use Rattle.end.specs.declared.Moment.{Moment}
use Rattle.end.specs.State.{source_at, distance_to, is_member, is_crashed, with_clock}
use Rattle.end.specs.Records.{within, is_above, is_held, reply_in}
use Rattle.end.specs.Names.{is_requester}
use Rattle.end.specs.Round.{quiet_after_reply}
use Rattle.end.specs.Messages.{session_message}
use Rattle.end.specs.Answer.{Out, Ignored, Refused, Did, Result, buffer_of}
use Rattle.end.specs.Decide.{same_cue}
use Rattle.end.specs.Arrival.{message_name, message_host, message_cue}
use Rattle.end.specs.Event.{Action, Arrival, Else, Report as Reporting, question_of, event_of}
use Rattle.guarantees.specs.Calls.{moment_at}
use Rattle.guarantees.specs.Records.{record_of, slot_of, StayOrRise, retired, HeardAs, ReplyAs}

-- a call with bytes that arrive
abbrev pub hear : End → List ℕ → ℕ → ℕ → List ℕ → Result
hear e bytes clock room draws = event_of e (Arrival bytes) clock room draws

-- A probe is a Report: the same answer, the same bytes, the same state, refused or not, whatever the state and the arguments.
abbrev pub ProbeIsReport : Type 0
ProbeIsReport = (e : End) (clock room : ℕ) (draws : List ℕ) → hear e [] clock room draws ≡ event_of e (Else Reporting) clock room draws

-- And what that is: a probe that is not refused is answered by a member with its session message at the call's clock, in any other status
-- Ignored; the clock is set, but on a crashed end, and nothing else changes.
pub record ProbeTaken (e : End) (clock room : ℕ) (draws : List ℕ) : Type 0 where
  pub member : is_member e.status ≡ true
      → hear e [] clock room draws ≡ record { outcome = Did (Out (bytes_of (session_message (with_clock e clock)))); left = with_clock e clock }
  pub aside : is_member e.status ≡ false → is_crashed e.status ≡ false
      → hear e [] clock room draws ≡ record { outcome = Did Ignored; left = with_clock e clock }
  pub crashed : is_crashed e.status ≡ true → hear e [] clock room draws ≡ record { outcome = Did Ignored; left = e }

abbrev pub ProbesAnswered : Type 0
ProbesAnswered = (e : End) (clock room : ℕ) (draws : List ℕ) → question_of e (Arrival []) clock room (length draws) ≡ 0 → ProbeTaken e clock room draws

-- A refused call, of any event, changes nothing at all, neither the end nor the output.
abbrev pub RefusedChangesNothing : Type 0
RefusedChangesNothing = (e : End) (a : Action) (clock room : ℕ) (draws : List ℕ) (k : ℕ) → (event_of e a clock room draws).outcome ≡ Refused k
    → ((event_of e a clock room draws).left ≡ e) × ((out : List ℕ) → buffer_of (event_of e a clock room draws).outcome out ≡ out)

-- host, parameters, status and next own number are the same
pub record SameEnd (e left : End) : Type 0 where
  pub host : left.host ≡ e.host
  pub params : left.params ≡ e.params
  pub status : left.status ≡ e.status
  pub next : left.next ≡ e.next

-- Whatever arrives, host, parameters, status and next own number stay.
abbrev pub ArrivalKeepsStatusAndNext : Type 0
ArrivalKeepsStatusAndNext = (e : End) (bytes : List ℕ) (clock room : ℕ) (draws : List ℕ) → SameEnd e (hear e bytes clock room draws).left

-- Whatever arrives, a held cue stays held, and stays the same, until it is retired: and it is retired only by a rise (`SpansAsHeard`).
abbrev pub HeldStays : Type 0
HeldStays = (e : End) (bytes : List ℕ) (clock room : ℕ) (draws : List ℕ) (h n : ℕ) → h < 8 → is_held (slot_of e h n) ≡ true
    → retired e (hear e bytes clock room draws).left h n ≡ false
    → (is_held (slot_of (hear e bytes clock room draws).left h n) ≡ true) × ((record_of (hear e bytes clock room draws).left h n).cue ≡ (record_of e h n).cue)

-- ---- which names a message can change

-- the message has this kind and this name
unfoldable pub is_about : ℕ → Meaning → ℕ → ℕ → Bool
is_about kind m h n = eqb m.kind kind && (eqb (message_name m).source.0 h && eqb (message_name m).number.0 n)

-- it is a RQST of this name, or an XPRS
unfoldable pub asks : Meaning → ℕ → ℕ → Bool
asks m h n = is_about RQST m h n || is_about XPRS m h n

-- it is a REPL of this name whose cue, if one is held, is the very same: one with other bytes is a Clash, and changes nothing
unfoldable pub repairs : Meaning → ℕ → ℕ → Record → Bool
repairs m h n r = is_about REPL m h n && (not (is_held r.slot) || same_cue (message_cue m) r.cue)

-- it is an XPRS of this name that this end answers at once: document 02, P8, "The named sender, if it holds the cue and clock ≥ reply-quiet"
unfoldable pub expresses : Moment → Meaning → ℕ → ℕ → Record → Bool
expresses t m h n r = is_about XPRS m h n && (same_host (message_host m) t.me && (is_held r.slot && leb r.hush t.clock))

-- a DATA of source h
unfoldable pub is_data_of : Meaning → ℕ → Bool
is_data_of m h = eqb m.kind DATA && eqb (message_name m).source.0 h

-- the express wait that it sets beside a new request of source h, of which this pair is kept: "A member that sets round 1 by a gap before a
-- DATA, not a REPL, and is that requester also sets an express wait, due E ticks on."
unfoldable pub express_by : Moment → Meaning → ℕ → Pair → Express
express_by t m h pair = cond (is_data_of m h && is_requester t.me pair) (Soon (t.clock + t.params.express)) Unset

-- j lies above the last of a source, and is at most n: one of the numbers that a rise to n asks for. Or it lies in first..last, and below
-- n − 63: one of those that a rise to n retires
abbrev pub risen : Span → ℕ → ℕ → Bool
risen span n j = (is_above span j && leb j n) || (within span j && ltb (j + 63) n)

-- a report of source h asks for j, or retires it
unfoldable pub reported_up : List Report → ℕ → Span → ℕ → Bool
reported_up [] h span j = false
reported_up (r ∷ rs) h span j = (eqb r.source.0 h && risen span r.last.0 j) || reported_up rs h span j

-- a message of one of the four kinds that may change what is kept under their name
abbrev pub has_name : Meaning → Bool
has_name m = eqb m.kind DATA || (eqb m.kind RQST || (eqb m.kind REPL || eqb m.kind XPRS))

-- Which names of a source h, whose first and last are `span`, a message may at most change. DATA, RQST, REPL and XPRS: of the source that they
-- name, the named number, those from last + 1 up to it and those more than 63 below it. SESS: of each source that is reported, those from
-- last + 1 up to the reported and those more than 63 below it. FTCH, LATE and ANNC report nothing, and change none.
unfoldable pub touches : Meaning → ℕ → Span → ℕ → Bool
touches m h span j =
    cond (has_name m)
    (eqb (message_name m).source.0 h && (eqb (message_name m).number.0 j || risen span (message_name m).number.0 j))
    (reported_up m.reports h span j)

-- Every other record stays exactly as it was, with its cue, request, reply and quiet time.
abbrev pub UntouchedStays : Type 0
UntouchedStays = (e : End) (bytes : List ℕ) (clock room : ℕ) (draws : List ℕ) (h n : ℕ) → h < 8
    → touches (meaning_from bytes) h (source_at e (as_host h)).span n ≡ false → record_of (hear e bytes clock room draws).left h n ≡ record_of e h n

-- So DATA, RQST, REPL and XPRS leave every record of every source but the one that they name.
abbrev pub OtherSourcesStay : Type 0
OtherSourcesStay = (e : End) (bytes : List ℕ) (clock room : ℕ) (draws : List ℕ) (h n : ℕ) → h < 8
    → has_name (meaning_from bytes) ≡ true → eqb (message_name (meaning_from bytes)).source.0 h ≡ false
    → record_of (hear e bytes clock room draws).left h n ≡ record_of e h n

-- ---- what becomes of requests and replies

-- A slot changes only as `HeardAs` says, unless its number is retired: then nothing is left of it.
abbrev pub SlotsAsHeard : Type 0
SlotsAsHeard = (e : End) (bytes : List ℕ) (clock room : ℕ) (draws : List ℕ) (h n : ℕ) → h < 8
    → retired e (hear e bytes clock room draws).left h n ≡ false
    → HeardAs (moment_at e clock) draws (distance_to e (as_host h)) n
    (is_about DATA (meaning_from bytes) h n || is_about REPL (meaning_from bytes) h n) (asks (meaning_from bytes) h n)
    (express_by (moment_at e clock) (meaning_from bytes) h (source_at e (as_host h)).pair) (slot_of e h n) (slot_of (hear e bytes clock room draws).left h n)

-- A cue that was not held and is held after an arrival is the one that the message carries.
abbrev pub HeldIsCarried : Type 0
HeldIsCarried = (e : End) (bytes : List ℕ) (clock room : ℕ) (draws : List ℕ) (h n : ℕ) → h < 8 → is_held (slot_of e h n) ≡ false
    → is_held (slot_of (hear e bytes clock room draws).left h n) ≡ true
    → (record_of (hear e bytes clock room draws).left h n).cue ≡ message_cue (meaning_from bytes)

-- A waiting reply changes only as `ReplyAs` says, unless its number is retired.
abbrev pub RepliesAsHeard : Type 0
RepliesAsHeard = (e : End) (bytes : List ℕ) (clock room : ℕ) (draws : List ℕ) (h n : ℕ) → h < 8
    → retired e (hear e bytes clock room draws).left h n ≡ false
    → ReplyAs (moment_at e clock) draws (distance_to e (meaning_from bytes).sender) (meaning_from bytes).sender n
    (asks (meaning_from bytes) h n)
    (repairs (meaning_from bytes) h n (record_of e h n) || expresses (moment_at e clock) (meaning_from bytes) h n (record_of e h n))
    (slot_of e h n) (record_of e h n).hush (reply_in (slot_of e h n)) (reply_in (slot_of (hear e bytes clock room draws).left h n))

-- A reply-quiet time stays; or it is D3×d after the clock, by a REPL of its name that carries the held cue if one is held, where d is the
-- distance to the host that the REPL names, the requester, or by an XPRS of its name that is answered at once, where d is the distance to its
-- sender; unless its number is retired.
abbrev pub ReplyQuietStays : Type 0
ReplyQuietStays = (e : End) (bytes : List ℕ) (clock room : ℕ) (draws : List ℕ) (h n : ℕ) → h < 8
    → retired e (hear e bytes clock room draws).left h n ≡ false
    → ((record_of (hear e bytes clock room draws).left h n).hush ≡ (record_of e h n).hush)
    ⊎ ((repairs (meaning_from bytes) h n (record_of e h n) ≡ true)
    × ((record_of (hear e bytes clock room draws).left h n).hush ≡ quiet_after_reply (moment_at e clock) (distance_to e (message_host (meaning_from bytes)))))
    ⊎ ((expresses (moment_at e clock) (meaning_from bytes) h n (record_of e h n) ≡ true)
    × ((record_of (hear e bytes clock room draws).left h n).hush ≡ quiet_after_reply (moment_at e clock) (distance_to e (meaning_from bytes).sender)))

-- ---- what becomes of first and last, distances and heard stamps

-- From first and last of a source before to those after; `opens` is whether the message is a DATA of this source.
abbrev pub SpanAs : Bool → Span → Span → Type 0
SpanAs opens Closed Closed = Unit {0}
SpanAs opens Closed (Open first last) = opens ≡ true
SpanAs opens (Open first last) Closed = ⊥
SpanAs opens (Open first last) (Open first' last') = StayOrRise first last first' last'

-- Whatever arrives, a DATA of a source alone gives it a first. First and last then stay, or last rises and first is the greater of itself and
-- last − 63.
abbrev pub SpansAsHeard : Type 0
SpansAsHeard = (e : End) (bytes : List ℕ) (clock room : ℕ) (draws : List ℕ) (h : ℕ) → h < 8
    → SpanAs (is_data_of (meaning_from bytes) h) (source_at e (as_host h)).span (source_at (hear e bytes clock room draws).left (as_host h)).span

-- the two kinds of document 02, P9, which have a name too and change nothing here: Fetch.antt
abbrev pub is_fetched : Meaning → Bool
is_fetched m = eqb m.kind FTCH || eqb m.kind LATE

-- the kind of P11, whose names are for displays: Announce.antt
abbrev pub is_announced : Meaning → Bool
is_announced m = eqb m.kind ANNC

-- a message of host h with no name: a SESS, if it is accepted
unfoldable pub is_session_of : Meaning → ℕ → Bool
is_session_of m h = not (has_name m || (is_fetched m || is_announced m)) && eqb m.sender.0 h

-- .. and a probe, which has no sender, is none
abbrev pub is_session_from : List ℕ → ℕ → Bool
is_session_from [] h = false
is_session_from (b ∷ s) h = is_session_of (meaning_from (b ∷ s)) h

-- Distance and heard stamp of a host stay, unless a SESS of that host arrives.
abbrev pub DistancesStay : Type 0
DistancesStay = (e : End) (bytes : List ℕ) (clock room : ℕ) (draws : List ℕ) (h : ℕ) → h < 8 → is_session_from bytes h ≡ false
    → (distance_to (hear e bytes clock room draws).left (as_host h) ≡ distance_to e (as_host h))
    × ((source_at (hear e bytes clock room draws).left (as_host h)).heard ≡ (source_at e (as_host h)).heard)
