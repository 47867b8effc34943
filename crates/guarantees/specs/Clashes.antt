-- Same name, other cue (document 02, P4), of every call and every state; proofs/Clashes.antt proves both. Where a message clashes is
-- defined beside the rules: end, specs/Clashes.antt, `Clashing`.
use Rattle.std.specs.Prelude.{◌≡◌, List, ℕ, length}
use Rattle.message.specs.declared.Name.{Name}
use Rattle.message.specs.Message.{meaning_from}
use Rattle.end.specs.declared.End.{End}
use Rattle.end.specs.State.{with_clock}
use Rattle.end.specs.Answer.{Clash, Did, Result, buffer_of}
use Rattle.end.specs.Arrival.{message_name}
use Rattle.end.specs.Event.{Action, Arrival, question_of, event_of}
use Rattle.end.specs.Clashes.{Clashing}
use Rattle.guarantees.specs.Arrivals.{hear}

-- Every DATA or REPL of another end that names a cue held by a member with other bytes answers Clash with the name, unless it is refused;
-- and the end is the very same but for its clock: its cues, its replies and reply-quiet times, everything.
abbrev pub OtherBytesClash : Type 0
OtherBytesClash = (e : End) (bytes : List ℕ) (clock room : ℕ) (draws : List ℕ) → question_of e (Arrival bytes) clock room (length draws) ≡ 0
    → Clashing e (meaning_from bytes)
    → hear e bytes clock room draws ≡ record { outcome = Did (Clash (message_name (meaning_from bytes))); left = with_clock e clock }

-- a call was the arrival of such a message, under this name; it left the end as it was but for its clock, and every byte of the output
pub record WasClash (e : End) (a : Action) (clock : ℕ) (name : Name) (r : Result) : Type 0 where
  pub bytes : List ℕ
  pub arrival : a ≡ Arrival bytes
  pub clashing : Clashing e (meaning_from bytes)
  pub named : message_name (meaning_from bytes) ≡ name
  pub left : r.left ≡ with_clock e clock
  pub output : (out : List ℕ) → buffer_of r.outcome out ≡ out

-- And no other call answers Clash.
abbrev pub ClashMeans : Type 0
ClashMeans = (e : End) (a : Action) (clock room : ℕ) (draws : List ℕ) (name : Name) → (event_of e a clock room draws).outcome ≡ Did (Clash name)
    → WasClash e a clock name (event_of e a clock room draws)
