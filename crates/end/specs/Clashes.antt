-- Document 02, P4, "Same name, other cue", as statements: what it is that two cues are the same, where a message clashes, and that no
-- message does where the network invents nothing. proofs/Clashes and proofs/Service/Unclashed prove them.
use Rattle.std.specs.Prelude.{◌≡◌, true, false, ◌||◌, ℕ, eqb}
use mathlib.Core.List.{List, Memᴰ}
use Rattle.message.specs.declared.Name.{Name}
use Rattle.message.specs.Message.{DATA, REPL, Meaning}
use Rattle.message.specs.Question.{same_host}
use Rattle.end.specs.declared.Record.{Record}
use Rattle.end.specs.declared.End.{End}
use Rattle.end.specs.State.{source_at, is_member}
use Rattle.end.specs.Records.{record_at, is_held}
use Rattle.end.specs.Answer.{Clash, Did}
use Rattle.end.specs.Decide.{same_cue}
use Rattle.end.specs.Arrival.{message_name, message_cue}
use Rattle.end.specs.Book.{Entry}
use Rattle.end.specs.Run.{World, Call, Fresh, Allowed, seen}

-- "all 24 cue bytes must agree": cues are the same exactly where their bytes are.
abbrev pub SameCueIsSameBytes : Type 0
SameCueIsSameBytes = (a b : List ℕ) → (same_cue a b ≡ true → a ≡ b) × (a ≡ b → same_cue a b ≡ true)

-- what an end has of the name that a message is about
abbrev pub named_record : End → Meaning → Record
named_record e m = record_at (source_at e (message_name m).source) (message_name m).number.0

-- "Such a message from another end that names a held cue with other bytes", on a member; such a message is a DATA or a REPL
pub record Clashing (e : End) (m : Meaning) : Type 0 where
  pub member : is_member e.status ≡ true
  pub another : same_host m.sender e.host ≡ false
  pub carries : eqb m.kind DATA || eqb m.kind REPL ≡ true
  pub held : is_held (named_record e m).slot ≡ true
  pub differs : same_cue (message_cue m) (named_record e m).cue ≡ false

-- "In runs where the network invents nothing, Clash is shown never to come up": no call of a list that demand 3 speaks of answers it, though any
-- RQST may arrive there (Run.antt).
abbrev pub NeverClashes : Type 0
NeverClashes = (w : World) → Fresh w → (cs : List Call) → Allowed w cs → (x : Entry) → Memᴰ x (seen w cs) → (name : Name) → x.outcome ≡ Did (Clash name) → ⊥
