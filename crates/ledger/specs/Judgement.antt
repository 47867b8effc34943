-- Which lines of a run's record the service's book permits, and the judgement. Document 02, P13. The book is that of demand 3: Book.antt of the
-- crate `end`.
use Rattle.std.specs.Prelude.{Bool, true, false, cond, ◌&&◌, ◌||◌, List, [], ◌∷◌, ℕ, ◌+◌, ltb, eqb, length, get_or}
use Rattle.end.specs.declared.Move.{Move}
use Rattle.end.specs.declared.Move.TheVariants.{Join, Joined, Leave, Left, Crash}
use Rattle.end.specs.Decide.{same_cue}
use Rattle.end.specs.Event.{Moves, Send, moves}
use Rattle.end.specs.Book.{Book, empty_book, limits, Due, Exactly, Original, NeverGot, due, after, file, hand}
use Rattle.record.specs.declared.Said.{Said}
use Rattle.record.specs.declared.Said.TheVariants.{Malformed, Moved, Sent, Got}
use Rattle.record.specs.declared.Line.{Line}
use Rattle.ledger.specs.declared.Judgement.{Judgement}
use Rattle.ledger.specs.declared.Judgement.TheVariants.{Allowed, BrokenAt, Refused}

-- ---- "the book permits the run: join, leave and crash lines anywhere, joined and left only where its status moves, send only as its Out,
-- and got within its limits, L taken from got lines alone, and with the filed cue"
abbrev pub anywhere : Move → Bool
anywhere Join = true
anywhere Joined = false
anywhere Leave = true
anywhere Left = false
anywhere Crash = true

-- the number of the DATA that is put out
abbrev pub as_out : Due → ℕ → Bool
as_out (Exactly a) n = false
as_out (Original s k cue) n = eqb n k
as_out NeverGot n = false

unfoldable pub permits_said : Book → Said → List ℕ → Bool
permits_said b Malformed cue = false
permits_said b (Moved m h) cue = anywhere m || moves m (b.status h.0)
permits_said b (Sent h n) cue = as_out (due b h.0 (Send cue)) n.0
permits_said b (Got h name) cue =
    limits b h.0 name.source.0 name.number.0 && same_cue (get_or (b.filed name.source.0) name.number.0 []) cue

abbrev pub permits : Book → Line → Bool
permits b l = permits_said b l.said l.cue

-- the book after a line that it permits: moved, with the cue filed, or with the number handed out. `hand` alone raises L, the highest number
unfoldable pub written_said : Book → Said → List ℕ → Book
written_said b Malformed cue = b
written_said b (Moved m h) cue = after b h.0 (Moves m)
written_said b (Sent h n) cue = file b h.0 cue
written_said b (Got h name) cue = hand b h.0 name.source.0 name.number.0

abbrev pub written : Book → Line → Book
written b l = written_said b l.said l.cue

-- after some lines
unfoldable pub written_all : Book → List Line → Book
written_all b [] = b
written_all b (l ∷ ls) = written_all (written b l) ls

-- a run, line by line
unfoldable pub permits_run : Book → List Line → Bool
permits_run b [] = true
permits_run b (l ∷ ls) = permits b l && permits_run (written b l) ls

-- ---- the judgement

-- "It prints "allowed" exactly if the book permits the run .. Otherwise it prints the number, from 1, of the first line at which the prefix
-- is no longer permitted.": k is the number of the next line
unfoldable pub judged_from : Book → ℕ → List Line → Judgement
judged_from b k [] = Allowed
judged_from b k (l ∷ ls) = cond (permits b l) (judged_from (written b l) (k + 1) ls) (BrokenAt k)

abbrev pub is_malformed : Said → Bool
is_malformed Malformed = true
is_malformed (Moved m h) = false
is_malformed (Sent h n) = false
is_malformed (Got h name) = false

unfoldable pub any_malformed : List Line → Bool
any_malformed [] = false
any_malformed (l ∷ ls) = is_malformed l.said || any_malformed ls

-- "More than 1,024 lines prints "refused 16", and otherwise a malformed line .. "refused 17", both before judging."
abbrev pub most_lines : ℕ
most_lines = 1024

unfoldable pub judgement_of : List Line → Judgement
judgement_of ls = cond (ltb most_lines (length ls)) (Refused 16) (cond (any_malformed ls) (Refused 17) (judged_from empty_book 1 ls))
