-- Document 02, P9, of the cues that are handed out as Late in the service's runs, as a statement: "in the service's runs with the source's
-- bytes". proofs/Service/Lates proves it. That Late comes at most once for a name since joining, whatever arrives, is one of the guarantees.
use Rattle.std.specs.Prelude.{◌≡◌, List, [], ◌∷◌, ℕ}
use Rattle.std.proofs.Math.Option.{some}
use Rattle.std.proofs.Math.ListN.{get_elem?}
use Rattle.message.specs.declared.Name.{Name}
use Rattle.end.specs.Answer.{Late, Outcome, Did}
use Rattle.end.specs.Book.{Book, Entry, empty_book, book_after}
use Rattle.end.specs.Run.{World, Call, Fresh, Allowed, seen}

-- a cue that is handed out as Late is the one that its source filed under the number
abbrev pub LateAsFiled : Book → Outcome → Type 0
LateAsFiled b o = (name : Name) (cue : List ℕ) → o ≡ Did (Late name cue) → get_elem? (b.filed name.source.0) name.number.0 ≡ some cue

-- at every call, by the book before it
abbrev pub LatesAsFiled : Book → List Entry → Type 0
LatesAsFiled b [] = Unit {0}
LatesAsFiled b (x ∷ xs) = LateAsFiled b x.outcome × LatesAsFiled (book_after b x.host x.action x.outcome) xs

-- in every list that demand 3 speaks of
abbrev pub LateHasTheSourcesBytes : Type 0
LateHasTheSourcesBytes = (w : World) → Fresh w → (cs : List Call) → Allowed w cs → LatesAsFiled empty_book (seen w cs)
