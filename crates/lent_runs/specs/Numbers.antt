-- What a host reads off the number that a call answers and the output that it leaves, as a statement; proofs/Numbers.antt proves it.
-- "kind × 2^32 + source × 2^16 + (number, length or refusal)".
use Rattle.std.specs.Prelude.{◌≡◌, cond, List, ℕ, ◌/◌, ◌%◌, length, eqb}
use Rattle.message.specs.declared.Name.{Name}
use Rattle.message.specs.Entry.{as_host, as_number}
use Rattle.end.specs.declared.Answer.{Answer}
use Rattle.end.specs.declared.Answer.TheVariants.{Refused, Out, Got, Done, Ignored, Nothing, Clash, Late, Exhausted}
use Rattle.end.specs.declared.End.{End}
use Rattle.end.specs.Answer.{Outcome, read_off}
use Rattle.end.specs.Event.{Action, event_of, gives, leaves}
use Rattle.end.specs.Run.{CueArray}
use Rattle.lent_answer.specs.Number.{OUT, GOT, DONE, IGNORED, NOTHING, CLASH, LATE, EXHAUSTED, kind_unit, number_of}

-- the parts of a number: its kind, its length or cue number, its name
abbrev pub kind_in : ℕ → ℕ
kind_in n = n / kind_unit

abbrev pub low_in : ℕ → ℕ
low_in n = n % 65536

abbrev pub name_in : ℕ → Name
name_in n = record { source = as_host (n / 65536 % 65536); number = as_number (low_in n) }

-- the answer that a number of a kind tells
abbrev pub answer_as : ℕ → ℕ → Answer
answer_as kind n =
    cond (eqb kind OUT) (Out (low_in n))
    (cond (eqb kind GOT) (Got (name_in n))
    (cond (eqb kind DONE) Done
    (cond (eqb kind IGNORED) Ignored
    (cond (eqb kind NOTHING) Nothing
    (cond (eqb kind CLASH) (Clash (name_in n))
    (cond (eqb kind LATE) (Late (name_in n))
    (cond (eqb kind EXHAUSTED) Exhausted
    (Refused n))))))))

unfoldable pub answer_in : ℕ → Answer
answer_in n = answer_as (kind_in n) n

-- what a call did: "Out (length, the message in the first output bytes), Got (name, and its cue in the first 24) .."
abbrev pub outcome_in : ℕ → List ℕ → Outcome
outcome_in n output = read_off (answer_in n) output

-- Every call's outcome is read off its number and its output: no answer is too large for the number, no message longer than its length says, and
-- a cue that is handed out has 24 bytes.
abbrev pub OutcomeReadsBack : Type 0
OutcomeReadsBack = (e : End) (a : Action) (clock : ℕ) (draws output : List ℕ) → CueArray a
    → outcome_in (number_of (gives e a clock draws output).answer) (leaves e a clock draws output) ≡ (event_of e a clock (length output) draws).outcome
