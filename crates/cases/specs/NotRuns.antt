-- What a list of entries that is no run of the service looks like here: it goes by the book but for its last entry, which the book turns
-- down for one reason. Document 01, "The service's book": "A list is a run of the service if after every call the end's status and the
-- answers just named, with their names and cues, are the book's."
use Rattle.std.specs.Prelude.{ℕ, List, [], ◌∷◌, ◌++◌}
use Rattle.message.specs.Message.{DATA, REPL}
use Rattle.end.specs.declared.Status.{Status}
use Rattle.end.specs.declared.Status.TheVariants.{Idle, Joining, Member, Leaving}
use Rattle.end.specs.Answer.{Out, Done}
use Rattle.end.specs.Event.{Action, Moves, Send, Arrival}
use Rattle.end.specs.declared.Move.TheVariants.{Join, Joined, Leave, Left}
use Rattle.end.specs.Answer.{Outcome, Did}
use Rattle.end.specs.Book.{Entry, RunFrom, empty_book}
use Rattle.cases.specs.Listing.{minus_two, about, message0, message1}

abbrev pub entry : ℕ → Action → Outcome → Status → Entry
entry h ev o status = record { host = h; action = ev; outcome = o; status = status }

-- a host joins; it leaves
abbrev pub joins : ℕ → List Entry
joins h = entry h (Moves Join) (Did Done) Joining ∷ entry h (Moves Joined) (Did Done) Member ∷ []

abbrev pub leaves : ℕ → List Entry
leaves h = entry h (Moves Leave) (Did Done) Leaving ∷ entry h (Moves Left) (Did Done) Idle ∷ []

-- host 0 sends a cue, as a member, and answers with these bytes
abbrev pub sends : List ℕ → List ℕ → Entry
sends cue bytes = entry 0 (Send cue) (Did (Out bytes)) Member

-- a host, a member, answers the arrival of a message
abbrev pub hears : ℕ → List ℕ → Outcome → Entry
hears h bytes o = entry h (Arrival bytes) o Member

-- host 0's third cue, and the DATA of it; the repair of name 0,1 from one host for another
abbrev pub third : List ℕ → List ℕ
third cue = about DATA 0 30 2 0 (cue ∷ [])

abbrev pub repair : ℕ → ℕ → List ℕ
repair sender requester = about REPL sender 560 1 requester (minus_two ∷ [])

-- how every list starts: hosts 0 and 1 join, and host 0 sends its cues 0 and 1
abbrev pub started : List Entry
started = joins 0 ++ (joins 1 ++ (sends minus_two message0 ∷ sends minus_two message1 ∷ []))

-- A limit of the book: after the start and these entries the wrong one is turned down, and the right one in its place is by the book; where
-- the reason falls away the wrong one's answer is by the book too.
pub record Limit : Type 0 where
  pub before : List Entry
  pub wrong : Entry
  pub right : Entry
  pub instead : List Entry

abbrev pub TurnsDown : Limit → Type 0
TurnsDown l =
    (RunFrom empty_book (started ++ (l.before ++ (l.wrong ∷ []))) → ⊥)
    × RunFrom empty_book (started ++ (l.before ++ (l.right ∷ [])))
    × RunFrom empty_book (started ++ l.instead)
