-- Whatever bytes arrive: the statements of the crate `guarantees`, Arrivals.
use Rattle.std.specs.Prelude.{◌≡◌, true, false, ◌||◌, List, [], ◌⊎◌, ℕ, ◌<◌, length, eqb}
use Rattle.message.specs.declared.Name.{Name}
use Rattle.message.specs.Entry.{as_host}
use Rattle.message.specs.Message.{DATA, REPL, meaning_from}
use Rattle.end.specs.declared.End.{End}
use Rattle.end.specs.State.{source_at, distance_to, with_clock}
use Rattle.end.specs.Records.{is_held, reply_in}
use Rattle.end.specs.Round.{quiet_after_reply}
use Rattle.end.specs.Answer.{Clash, Refused, Did, buffer_of}
use Rattle.end.specs.Decide.{same_cue}
use Rattle.end.specs.Arrival.{message_name, message_host, message_cue}
use Rattle.end.specs.Event.{Action, Arrival, Else, Report as Reporting, question_of, event_of}
use Rattle.end.specs.Clashes.{Clashing}
use Rattle.guarantees.specs.Calls.{moment_at}
use Rattle.guarantees.specs.Records.{record_of, slot_of, retired, HeardAs, ReplyAs}
use Rattle.guarantees.specs.Arrivals.{hear, ProbeTaken, SameEnd, is_about, asks, repairs, expresses, express_by, has_name, touches, SpanAs, is_data_of, is_session_from}
use Rattle.guarantees.specs.Clashes.{WasClash}

pub record ArrivalsKept : Type 0 where
  -- A probe is a Report: the same answer, the same bytes, the same state, refused or not, whatever the state and the arguments.
  pub probe_is_report : (e : End) (clock room : ℕ) (draws : List ℕ) → hear e [] clock room draws ≡ event_of e (Else Reporting) clock room draws
  -- A probe that is not refused is answered by a member with its session message at the call's clock, in any other status Ignored.
  pub probes_answered : (e : End) (clock room : ℕ) (draws : List ℕ) → question_of e (Arrival []) clock room (length draws) ≡ 0
      → ProbeTaken e clock room draws
  -- A refused call, of any event, changes nothing at all, neither the end nor the output.
  pub refused_changes_nothing : (e : End) (a : Action) (clock room : ℕ) (draws : List ℕ) (k : ℕ) → (event_of e a clock room draws).outcome ≡ Refused k
      → ((event_of e a clock room draws).left ≡ e) × ((out : List ℕ) → buffer_of (event_of e a clock room draws).outcome out ≡ out)
  -- Whatever arrives, host, parameters, status and next own number stay.
  pub arrival_keeps_status_and_next : (e : End) (bytes : List ℕ) (clock room : ℕ) (draws : List ℕ) → SameEnd e (hear e bytes clock room draws).left
  -- Whatever arrives, a held cue stays held, and stays the same, until it is retired: and it is retired only by a rise (`spans_as_heard`).
  pub held_stays : (e : End) (bytes : List ℕ) (clock room : ℕ) (draws : List ℕ) (h n : ℕ) → h < 8 → is_held (slot_of e h n) ≡ true
      → retired e (hear e bytes clock room draws).left h n ≡ false
      → (is_held (slot_of (hear e bytes clock room draws).left h n) ≡ true) × ((record_of (hear e bytes clock room draws).left h n).cue ≡ (record_of e h n).cue)
  -- Every other record stays exactly as it was, with its cue, request, reply and quiet time.
  pub untouched_stays : (e : End) (bytes : List ℕ) (clock room : ℕ) (draws : List ℕ) (h n : ℕ) → h < 8
      → touches (meaning_from bytes) h (source_at e (as_host h)).span n ≡ false → record_of (hear e bytes clock room draws).left h n ≡ record_of e h n
  -- So DATA, RQST, REPL and XPRS leave every record of every source but the one that they name.
  pub other_sources_stay : (e : End) (bytes : List ℕ) (clock room : ℕ) (draws : List ℕ) (h n : ℕ) → h < 8
      → has_name (meaning_from bytes) ≡ true → eqb (message_name (meaning_from bytes)).source.0 h ≡ false
      → record_of (hear e bytes clock room draws).left h n ≡ record_of e h n
  -- A slot changes only as `HeardAs` says, unless its number is retired: then nothing is left of it.
  pub slots_as_heard : (e : End) (bytes : List ℕ) (clock room : ℕ) (draws : List ℕ) (h n : ℕ) → h < 8
      → retired e (hear e bytes clock room draws).left h n ≡ false
      → HeardAs (moment_at e clock) draws (distance_to e (as_host h)) n
      (is_about DATA (meaning_from bytes) h n || is_about REPL (meaning_from bytes) h n) (asks (meaning_from bytes) h n)
      (express_by (moment_at e clock) (meaning_from bytes) h (source_at e (as_host h)).pair) (slot_of e h n) (slot_of (hear e bytes clock room draws).left h n)
  -- A cue that was not held and is held after an arrival is the one that the message carries.
  pub held_is_carried : (e : End) (bytes : List ℕ) (clock room : ℕ) (draws : List ℕ) (h n : ℕ) → h < 8 → is_held (slot_of e h n) ≡ false
      → is_held (slot_of (hear e bytes clock room draws).left h n) ≡ true
      → (record_of (hear e bytes clock room draws).left h n).cue ≡ message_cue (meaning_from bytes)
  -- A waiting reply changes only as `ReplyAs` says, unless its number is retired.
  pub replies_as_heard : (e : End) (bytes : List ℕ) (clock room : ℕ) (draws : List ℕ) (h n : ℕ) → h < 8
      → retired e (hear e bytes clock room draws).left h n ≡ false
      → ReplyAs (moment_at e clock) draws (distance_to e (meaning_from bytes).sender) (meaning_from bytes).sender n
      (asks (meaning_from bytes) h n)
      (repairs (meaning_from bytes) h n (record_of e h n) || expresses (moment_at e clock) (meaning_from bytes) h n (record_of e h n))
      (slot_of e h n) (record_of e h n).hush (reply_in (slot_of e h n)) (reply_in (slot_of (hear e bytes clock room draws).left h n))
  -- A reply-quiet time stays; or it is D3×d after the clock, by a REPL of its name that carries the held cue if one is held, where d is the
  -- distance to the host that the REPL names, the requester, or by an XPRS of its name that is answered at once, where d is the distance to its
  -- sender; unless its number is retired.
  pub reply_quiet_stays : (e : End) (bytes : List ℕ) (clock room : ℕ) (draws : List ℕ) (h n : ℕ) → h < 8
      → retired e (hear e bytes clock room draws).left h n ≡ false
      → ((record_of (hear e bytes clock room draws).left h n).hush ≡ (record_of e h n).hush)
      ⊎ ((repairs (meaning_from bytes) h n (record_of e h n) ≡ true)
      × ((record_of (hear e bytes clock room draws).left h n).hush ≡ quiet_after_reply (moment_at e clock) (distance_to e (message_host (meaning_from bytes)))))
      ⊎ ((expresses (moment_at e clock) (meaning_from bytes) h n (record_of e h n) ≡ true)
      × ((record_of (hear e bytes clock room draws).left h n).hush ≡ quiet_after_reply (moment_at e clock) (distance_to e (meaning_from bytes).sender)))
  -- Whatever arrives, a DATA of a source alone gives it a first. First and last then stay, or last rises and first is the greater of itself
  -- and last − 63.
  pub spans_as_heard : (e : End) (bytes : List ℕ) (clock room : ℕ) (draws : List ℕ) (h : ℕ) → h < 8
      → SpanAs (is_data_of (meaning_from bytes) h) (source_at e (as_host h)).span (source_at (hear e bytes clock room draws).left (as_host h)).span
  -- Distance and heard stamp of a host stay, unless a SESS of that host arrives.
  pub distances_stay : (e : End) (bytes : List ℕ) (clock room : ℕ) (draws : List ℕ) (h : ℕ) → h < 8 → is_session_from bytes h ≡ false
      → (distance_to (hear e bytes clock room draws).left (as_host h) ≡ distance_to e (as_host h))
      × ((source_at (hear e bytes clock room draws).left (as_host h)).heard ≡ (source_at e (as_host h)).heard)
  -- Document 02, P4. Two cues are the same exactly where their bytes are.
  pub same_cue_is_same_bytes : (a b : List ℕ) → (same_cue a b ≡ true → a ≡ b) × (a ≡ b → same_cue a b ≡ true)
  -- Every DATA or REPL of another end that names a cue held by a member with other bytes answers Clash with the name, unless it is refused;
  -- and the end is the very same but for its clock.
  pub other_bytes_clash : (e : End) (bytes : List ℕ) (clock room : ℕ) (draws : List ℕ) → question_of e (Arrival bytes) clock room (length draws) ≡ 0
      → Clashing e (meaning_from bytes)
      → hear e bytes clock room draws ≡ record { outcome = Did (Clash (message_name (meaning_from bytes))); left = with_clock e clock }
  -- And no other call answers Clash; none that does changes the end but for its clock, or a byte of the output.
  pub clash-means : (e : End) (a : Action) (clock room : ℕ) (draws : List ℕ) (name : Name) → (event_of e a clock room draws).outcome ≡ Did (Clash name)
      → WasClash e a clock name (event_of e a clock room draws)
