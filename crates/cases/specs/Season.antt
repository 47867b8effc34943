-- A season of cues: what a rise does to a source, and what is taken at the edges of the latest 64 numbers. Document 02, P7: "when last rises
-- to L, numbers below L−63 are retired with their waits, first becomes the greater of itself and L−63, and the freed places serve the new
-- numbers. Cue number n uses draw n mod 64. Per source the end counts the numbers retired without a cue since joining, those passed over in
-- one rise included".
use Rattle.std.specs.Prelude.{ℕ, ◌+◌, ◌-◌, Bool, true, false, cond, List, [], ◌∷◌, replicate, set, eqb}
use Rattle.std.proofs.Math.Option.{Option, none, some}
use Rattle.message.specs.Entry.{as_host, as_number, blank_cue}
use Rattle.end.specs.Parts.{Due, NoPair, Span, Closed, Open, At, From}
use Rattle.end.specs.declared.Slot.TheVariants.{Held}
use Rattle.end.specs.declared.Record.{Record}
use Rattle.end.specs.declared.Source.{Source}
use Rattle.end.specs.declared.Moment.{Moment}
use Rattle.end.specs.declared.Says.{Says}
use Rattle.end.specs.declared.Says.TheVariants.{Data, Rqst, Repl}
use Rattle.end.specs.declared.Word.{Word}
use Rattle.end.specs.declared.Reason.TheVariants.{BelowFirst}
use Rattle.end.specs.declared.Decision.TheVariants.{Ignores, Takes, Repairs, Learns, BacksOff}
use Rattle.end.specs.Records.{record_at}
use Rattle.end.specs.Round.{request_with}
use Rattle.end.specs.Names.{asked, asking, filled, rise}
use Rattle.end.specs.Decide.{decide}
use Rattle.end.specs.Session.{reported_source}
use Rattle.end.specs.State.{blank_record, blank_names, blank_attempts}
use Rattle.end.specs.Opening.{house_params}
use Rattle.cases.specs.Case.{Case, case}

-- host 1 at clock 1000; the draw at place 0 is 65535, every other 0
abbrev pub at : ℕ → Moment
at clock = record { me = as_host 1; params = house_params; clock = clock }

abbrev pub now : Moment
now = at 1000

abbrev pub draws : List ℕ
draws = set (replicate 64 0) 0 65535

-- what it keeps of host 0's numbers first..last: those that pass the test are held, each with a waiting reply and a reply-quiet time, and the
-- others are asked for
abbrev pub held_record : Record
held_record = record { slot = Held (Due 2000 (as_host 2)); cue = blank_cue; hush = 1500 }

abbrev pub keeping : ℕ → ℕ → (ℕ → Bool) → Source
keeping first last held = record {
  span = Open (as_number first) (as_number last);
  missed = 0;
  pair = NoPair;
  distance = 40;
  heard = At 0 0 0;
  names = filled (λ n. cond (held n) held_record (asked now draws 40 n)) (last + 1 - first) first blank_names;
  origin = From (as_number first);
  attempts = blank_attempts;
}

abbrev pub all : ℕ → Bool
all n = true

abbrev pub but : ℕ → ℕ → Bool
but k n = cond (eqb n k) false true

-- first, last and the count after a rise
abbrev pub Edges : Type 0
Edges = Option (ℕ × ℕ × ℕ)

abbrev pub edges_in : Span → ℕ → Edges
edges_in Closed missed = none
edges_in (Open first last) missed = some (first.0, last.0, missed)

abbrev pub edges : Source → Edges
edges s = edges_in s.span s.missed

abbrev pub risen_to : ℕ → Source → Source
risen_to n s = rise now draws n s s.span

abbrev pub rises : Source → ℕ → ℕ → ℕ → ℕ → Case
rises s n first last missed = case (edges (risen_to n s)) (some (first, last, missed))

-- a message of host 2 that names number n of host 0
abbrev pub naming : Says → ℕ → Word
naming says n = record {
  says = says;
  name = record { source = as_host 0; number = as_number n };
  host = as_host 2;
  sender = as_host 2;
  requester = as_host 2;
  distance = 40;
  cue = blank_cue;
}

-- the source after a rise from 10 to 80: 17..80 are kept, all of them asked for
abbrev pub risen80 : Source
risen80 = risen_to 80 (keeping 0 10 all)

unfoldable pub season_rows : List Case
season_rows =
    -- from 63 to 64: number 0 goes; it had its cue, or had not
    rises (keeping 0 63 all) 64 1 64 0
    ∷ rises (keeping 0 63 (but 0)) 64 1 64 1
    ∷ rises (keeping 0 63 (but 1)) 64 1 64 0
    -- the window is not full: nothing goes
    ∷ rises (keeping 1 63 (but 1)) 64 1 64 0
    ∷ rises (keeping 63 63 all) 64 63 64 0
    -- from 10 to 80: 0..10 go with their cues, 11..16 are passed over
    ∷ rises (keeping 0 10 all) 80 17 80 6
    ∷ rises (keeping 0 10 (but 3)) 80 17 80 7
    -- to 73, 74 and 75: the last of 0..10 stays, goes, and the first number passed over goes
    ∷ rises (keeping 0 10 (but 10)) 73 10 73 0
    ∷ rises (keeping 0 10 (but 10)) 74 11 74 1
    ∷ rises (keeping 0 10 (but 10)) 75 12 75 2
    -- from 0 to 65,535
    ∷ rises (keeping 0 0 all) 65535 65472 65535 65471
    -- a number that is not above last changes nothing
    ∷ case (risen_to 63 (keeping 0 63 (but 5))) (keeping 0 63 (but 5))
    -- "the freed places serve the new numbers", with nothing left of the old one: no reply, no reply-quiet. "Cue number n uses draw n mod 64"
    ∷ case (record_at (risen_to 64 (keeping 0 63 all)) 64) (asking blank_record (request_with now 65535 40 1))
    ∷ case (record_at (risen_to 64 (keeping 0 63 all)) 63) held_record
    ∷ case (record_at (risen_to 64 (keeping 0 63 all)) 0) blank_record
    -- a number just inside the window and just below it
    ∷ case (decide now (naming Data 17) risen80) Takes
    ∷ case (decide now (naming Data 16) risen80) (Ignores BelowFirst)
    ∷ case (decide (at 2000) (naming Rqst 17) risen80) (BacksOff 1)
    ∷ case (decide (at 2000) (naming Rqst 16) risen80) (Ignores BelowFirst)
    ∷ case (decide now (naming Rqst 81) risen80) Learns
    ∷ case (decide now (naming Repl 17) risen80) Repairs
    ∷ case (decide now (naming Repl 16) risen80) (Ignores BelowFirst)
    ∷ case (edges (reported_source now draws (record { source = as_host 0; last = as_number 80 }) risen80)) (some (17, 80, 6))
    ∷ case (edges (reported_source now draws (record { source = as_host 0; last = as_number 81 }) risen80)) (some (18, 81, 7))
    ∷ []
