-- The record of a list of calls, and that the record of a run of the service is never rejected: an honest link is not accused. Document 02, P13;
-- the lists are those of demand 3 (Run.antt of the crate `end`).
use Rattle.std.specs.Prelude.{◌≡◌, Bool, true, cond, ◌&&◌, List, [], ◌∷◌, ◌++◌, ℕ, suc, ◌≤◌, length}
use Rattle.numbers.specs.Number.{Bytes}
use Rattle.end.specs.Answer.{Effect, Out, Got, Done, Ignored, Nothing, Clash, Late, Exhausted, Outcome, Refused, Did}
use Rattle.end.specs.Event.{Action, Moves, Send, Arrival, Else}
use Rattle.end.specs.Book.{Entry, RunFrom, empty_book}
use Rattle.end.specs.Run.{Call, World, seen, Allowed, Fresh}
use Rattle.record.specs.declared.Line.{Line}
use Rattle.record.specs.Line.{moved}
use Rattle.record.specs.Text.{record_text}
use Rattle.record.specs.Kept.{lines_of}
use Rattle.ledger.specs.declared.Judgement.TheVariants as judged
use Rattle.ledger.specs.Judgement.{anywhere, permits_run, most_lines, judgement_of}
use Rattle.judgement.specs.Record.{lines_from, printed, record_prints}

-- the lines that the calls leave, one call after the other
unfoldable pub record_of : List Entry → List Line
record_of [] = []
record_of (x ∷ xs) = lines_of x.host x.action x.outcome ++ record_of xs

-- ---- the book permits the record of every run of the service
abbrev pub RunsPermitted : Type 0
RunsPermitted = (xs : List Entry) → RunFrom empty_book xs → permits_run empty_book (record_of xs) ≡ true

-- so that of every list of demand 3
abbrev pub ListsPermitted : Type 0
ListsPermitted = (w : World) → Fresh w → (cs : List Call) → Allowed w cs → permits_run empty_book (record_of (seen w cs)) ≡ true

-- ---- from bytes to bytes

-- the cues that are sent are made of bytes, as their declared type has it
abbrev pub CueBytes : Action → Type 0
CueBytes (Moves m) = Unit {0}
CueBytes (Send cue) = Bytes cue
CueBytes (Arrival bytes) = Unit {0}
CueBytes (Else o) = Unit {0}

abbrev pub AllCueBytes : List Call → Type 0
AllCueBytes [] = Unit {0}
AllCueBytes (c ∷ cs) = CueBytes c.action × AllCueBytes cs

-- the record, written down, of a list of demand 3 is printed "allowed", if it has at most 1,024 lines
abbrev pub NeverAccused : Type 0
NeverAccused = (w : World) → Fresh w → (cs : List Call) → Allowed w cs → AllCueBytes cs → length (record_of (seen w cs)) ≤ most_lines
    → record_prints (record_text (record_of (seen w cs))) ≡ printed judged.Allowed

-- and bytes that are rejected at a line are the record of no such list. Bytes of more than 1,024 lines are rejected at none: they are refused as 16
abbrev pub RejectedIsNone : Type 0
RejectedIsNone = (input : List ℕ) (k : ℕ) → judgement_of (lines_from [] input) ≡ judged.BrokenAt k
    → (w : World) → Fresh w → (cs : List Call) → Allowed w cs → AllCueBytes cs → input ≡ record_text (record_of (seen w cs)) → ⊥

-- ---- "join, leave and crash lines anywhere": the record may also tell of moves that were tried and did not move. t says of each call whether
-- such a line is written for it
abbrev pub tried_line : Bool → ℕ → Action → List Line
tried_line t h (Moves m) = cond (t && anywhere m) (moved m h ∷ []) []
tried_line t h (Send cue) = []
tried_line t h (Arrival bytes) = []
tried_line t h (Else o) = []

unfoldable pub tried_for : Bool → ℕ → Action → Effect → List Line
tried_for t h a (Out bytes) = []
tried_for t h a (Got name cue) = []
tried_for t h a Done = []
tried_for t h a Ignored = tried_line t h a
tried_for t h a Nothing = []
tried_for t h a (Clash name) = []
tried_for t h a (Late name cue) = []
tried_for t h a Exhausted = []

abbrev pub tried_by : Bool → ℕ → Action → Outcome → List Line
tried_by t h a (Refused k) = []
tried_by t h a (Did e) = tried_for t h a e

unfoldable pub record_with : (ℕ → Bool) → List Entry → List Line
record_with t [] = []
record_with t (x ∷ xs) =
    (lines_of x.host x.action x.outcome ++ tried_by (t 0) x.host x.action x.outcome) ++ record_with (λ n. t (suc n)) xs

-- the same of these records
abbrev pub TriedPermitted : Type 0
TriedPermitted = (t : ℕ → Bool) (xs : List Entry) → RunFrom empty_book xs → permits_run empty_book (record_with t xs) ≡ true

abbrev pub TriedNeverAccused : Type 0
TriedNeverAccused = (t : ℕ → Bool) (w : World) → Fresh w → (cs : List Call) → Allowed w cs → AllCueBytes cs → length (record_with t (seen w cs)) ≤ most_lines
    → record_prints (record_text (record_with t (seen w cs))) ≡ printed judged.Allowed
