-- Demand 3 in terms of what a call returns and leaves: its declared answer and its output buffer.
use Rattle.std.specs.Prelude.{ℕ, ◌≡◌}
use mathlib.Core.List.{List, [], ◌∷◌, map, Memᴰ}
use Rattle.message.specs.declared.Name.{Name}
use Rattle.end.specs.declared.Answer.{Answer}
use Rattle.end.specs.declared.Answer.TheVariants as answer
use Rattle.end.specs.declared.Status.{Status}
use Rattle.end.specs.Event.{Action}
use Rattle.end.specs.Answer.{answer_of, buffer_of, read_off}
use Rattle.end.specs.Book.{Entry, RunFrom, empty_book}
use Rattle.end.specs.Lates.{LatesAsFiled}
use Rattle.end.specs.Run.{World, Call, Allowed, Fresh, result_of, world_after}

-- one call: what it was given, what it returned and left
pub record Returned : Type 0 where
  pub host : ℕ
  pub action : Action
  pub answer : Answer
  pub output : List ℕ
  pub status : Status

unfoldable pub returned : World → List Call → List Returned
returned w [] = []
returned w (c ∷ cs) =
    let r = result_of w c in
    record { host = c.host; action = c.action; answer = answer_of r.outcome; output = buffer_of r.outcome c.output; status = r.left.status }
    ∷ returned (world_after w c.host r) cs

unfoldable pub onlooked : Returned → Entry
onlooked r = record { host = r.host; action = r.action; outcome = read_off r.answer r.output; status = r.status }

-- Demand 3: "A list is a run of the service if after every call the end's status and the answers just named, with their names and cues,
-- are the book's."
abbrev pub ServiceShown : Type 0
ServiceShown = (w : World) → Fresh w → (cs : List Call) → Allowed w cs → RunFrom empty_book (map onlooked (returned w cs))

-- Document 02, P9: a cue that is handed out as Late has "the source's bytes", of the answers and outputs that the calls return.
abbrev pub LateShown : Type 0
LateShown = (w : World) → Fresh w → (cs : List Call) → Allowed w cs → LatesAsFiled empty_book (map onlooked (returned w cs))

-- Document 02, P4: "In runs where the network invents nothing, Clash is shown never to come up", of the answers that the calls return.
abbrev pub NeverReturnsClash : Type 0
NeverReturnsClash = (w : World) → Fresh w → (cs : List Call) → Allowed w cs
    → (x : Returned) → Memᴰ x (returned w cs) → (name : Name) → x.answer ≡ answer.Clash name → ⊥
