-- What a judgement says of a record. Document 02, P13: "It prints "allowed" exactly if the book permits the run .. Otherwise it prints the number,
-- from 1, of the first line at which the prefix is no longer permitted. More than 1,024 lines prints "refused 16", and otherwise a malformed line
-- .. "refused 17", both before judging."
use Rattle.std.specs.Prelude.{◌≡◌, true, false, List, ◌⊎◌, ℕ, ◌≤◌, ◌<◌, length, take}
use Rattle.end.specs.Book.{empty_book}
use Rattle.record.specs.declared.Line.{Line}
use Rattle.ledger.specs.declared.Judgement.{Judgement}
use Rattle.ledger.specs.declared.Judgement.TheVariants.{Allowed, BrokenAt, Refused}
use Rattle.ledger.specs.Judgement.{permits_run, any_malformed, most_lines, judgement_of}

-- the prefix of k lines is not permitted, and every shorter one is
pub record FirstBroken (ls : List Line) (k : ℕ) : Type 0 where
  pub within : k ≤ length ls
  pub broken : permits_run empty_book (take k ls) ≡ false
  pub before : (j : ℕ) → j < k → permits_run empty_book (take j ls) ≡ true

abbrev pub Means : Judgement → List Line → Type 0
Means Allowed ls = (length ls ≤ most_lines) × (permits_run empty_book ls ≡ true)
Means (BrokenAt k) ls = (length ls ≤ most_lines) × (any_malformed ls ≡ false) × FirstBroken ls k
Means (Refused n) ls = ((n ≡ 16) × (most_lines < length ls)) ⊎ ((n ≡ 17) × (length ls ≤ most_lines) × (any_malformed ls ≡ true))

-- the judgement says so, and no other judgement does
abbrev pub JudgedRight : Type 0
JudgedRight = (ls : List Line) → Means (judgement_of ls) ls

abbrev pub JudgedOnlySo : Type 0
JudgedOnlySo = (ls : List Line) (j : Judgement) → Means j ls → judgement_of ls ≡ j
