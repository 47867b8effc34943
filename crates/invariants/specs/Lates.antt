-- What a kind 22 and a kind 23 are answered, that what is handed out as Late is right, and which event is answered "exhausted", as statements;
-- proofs/Lates.antt proves each.
-- Document 02, P9.
use Rattle.std.specs.Prelude.{◌≡◌, true, false, cond, not, ◌&&◌, List, ◌∷◌, ◌++◌, ℕ, length, drop}
use Rattle.numbers.specs.Bits.{bit}
use Rattle.message.specs.declared.Name.{Name}
use Rattle.message.specs.Message.{FTCH, LATE, Meaning, meaning_from, bytes_of}
use Rattle.message.specs.Question.{same_host}
use Rattle.end.specs.declared.End.{End}
use Rattle.end.specs.State.{source_at, is_member, moment_of, with_clock, on_source}
use Rattle.end.specs.Records.{is_held, fetchable}
use Rattle.end.specs.Messages.{message_name, message_host, message_cue, fetched_message}
use Rattle.end.specs.Answer.{Out, Ignored, Late, Exhausted, give, done, Outcome, Did, buffer_of}
use Rattle.end.specs.Fetch.{hands_late, attempt_on}
use Rattle.end.specs.Event.{Action, Arrival, Else, Fetch, question_of, event_of}
use Rattle.invariants.specs.Outputs.{kept_under}

-- another end's message of this kind, at a member
pub record FromAnother (e : End) (kind : ℕ) (m : Meaning) : Type 0 where
  pub member : is_member e.status ≡ true
  pub another : same_host m.sender e.host ≡ false
  pub said : m.kind ≡ kind

-- Kind 22: "The tried host answers with kind 23 in that call if it holds the cue", with that cue, the name that is asked for, and the one who
-- asks as its host. "All else is Ignored". Nothing changes but the clock.
abbrev pub FetchAnswered : Type 0
FetchAnswered = (e : End) (b : ℕ) (s : List ℕ) (clock room : ℕ) (draws : List ℕ) → question_of e (Arrival (b ∷ s)) clock room (length draws) ≡ 0
    → let m = meaning_from (b ∷ s) in let held = kept_under e (message_name m) in let now = with_clock e clock in FromAnother e FTCH m
    → event_of e (Arrival (b ∷ s)) clock room draws
    ≡ done (cond (same_host (message_host m) e.host && is_held held.slot)
    (give (Out (bytes_of (fetched_message (moment_of now) (message_name m) m.sender held.cue))) now)
    (give Ignored now))

-- Kind 23: "Its requester hands it out as Late, written as Got is, if it has tried that sender for the number since joining, at most once since
-- joining": the number is marked. "All else is Ignored".
abbrev pub LateAnswered : Type 0
LateAnswered = (e : End) (b : ℕ) (s : List ℕ) (clock room : ℕ) (draws : List ℕ) → question_of e (Arrival (b ∷ s)) clock room (length draws) ≡ 0
    → let m = meaning_from (b ∷ s) in let name = message_name m in let now = with_clock e clock in FromAnother e LATE m
    → event_of e (Arrival (b ∷ s)) clock room draws
    ≡ done (cond (same_host (message_host m) e.host && (bit (attempt_on e name).tried m.sender.0 && not (attempt_on e name).late))
    (give (Late name (message_cue m)) (on_source now name.source (hands_late name.number.0)))
    (give Ignored now))

-- what is right to hand out as Late in a call with this action and this outcome: the cue of another end's kind 23 that arrives at a member, for
-- this end, from a host that was tried, and not a second time
pub record RightLate (e : End) (a : Action) (name : Name) (cue : List ℕ) (o : Outcome) : Type 0 where
  pub bytes : List ℕ
  pub arrival : a ≡ Arrival bytes
  pub member : is_member e.status ≡ true
  pub another : same_host (meaning_from bytes).sender e.host ≡ false
  pub kind : (meaning_from bytes).kind ≡ LATE
  pub requester : same_host (message_host (meaning_from bytes)) e.host ≡ true
  pub named : message_name (meaning_from bytes) ≡ name
  pub carried : message_cue (meaning_from bytes) ≡ cue
  pub tried : bit (attempt_on e name).tried (meaning_from bytes).sender.0 ≡ true
  pub once : (attempt_on e name).late ≡ false
  -- a cue of another's source, with a number below the first original
  pub other : same_host name.source e.host ≡ false
  pub below : fetchable (source_at e name.source).origin name.number.0 ≡ true
  -- it is in the first 24 output bytes, and every other byte is as it was
  pub long : length cue ≡ 24
  pub output : (out : List ℕ) → buffer_of o out ≡ cue ++ drop 24 out

-- Every Late of every call is right, on any state.
abbrev pub LateIsRight : Type 0
LateIsRight = (e : End) (a : Action) (clock room : ℕ) (draws : List ℕ) (name : Name) (cue : List ℕ) → let o = (event_of e a clock room draws).outcome in
    o ≡ Did (Late name cue) → RightLate e a name cue o

-- "to a fetch that isn't Ignored, "exhausted" is answered": to no other event, on any state. Where it is, the crate guarantees says
-- (`ExhaustedMeans`).
abbrev pub ExhaustedByFetch : Type 0
ExhaustedByFetch = (e : End) (a : Action) (clock room : ℕ) (draws : List ℕ) → (event_of e a clock room draws).outcome ≡ Did Exhausted
    → (name : Name) × (a ≡ Else (Fetch name))
