-- A run's record from bytes to bytes: its lines, and what the program "judge" prints. Document 02, P13. Characters are ASCII codes: 10 is the line
-- feed.
use Rattle.std.specs.Prelude.{cond, List, [], ◌∷◌, ◌++◌, ℕ, eqb}
use Rattle.decimal.specs.Decimal.{decimal}
use Rattle.record.specs.declared.Line.{Line}
use Rattle.record.specs.Line.{malformed, line_of}
use Rattle.ledger.specs.declared.Judgement.{Judgement}
use Rattle.ledger.specs.declared.Judgement.TheVariants.{Allowed, BrokenAt, Refused}
use Rattle.ledger.specs.Judgement.{judgement_of}

-- the end of the record: "a malformed line (.. or a last line without line feed too)"
abbrev pub last_line : List ℕ → List Line
last_line [] = []
last_line (b ∷ line) = malformed ∷ []

-- the lines of bytes that come after those of a line so far
unfoldable pub lines_from : List ℕ → List ℕ → List Line
lines_from line [] = last_line line
lines_from line (b ∷ s) = cond (eqb b 10) (line_of line ∷ lines_from [] s) (lines_from (line ++ (b ∷ [])) s)

-- "allowed" and "refused "
abbrev pub allowed_word : List ℕ
allowed_word = 97 ∷ 108 ∷ 108 ∷ 111 ∷ 119 ∷ 101 ∷ 100 ∷ []

abbrev pub refused_word : List ℕ
refused_word = 114 ∷ 101 ∷ 102 ∷ 117 ∷ 115 ∷ 101 ∷ 100 ∷ 32 ∷ []

abbrev pub line_feed : List ℕ
line_feed = 10 ∷ []

-- what is printed for a judgement, and for a whole record
unfoldable pub printed : Judgement → List ℕ
printed Allowed = allowed_word ++ line_feed
printed (BrokenAt k) = decimal k ++ line_feed
printed (Refused n) = refused_word ++ (decimal n ++ line_feed)

unfoldable pub record_prints : List ℕ → List ℕ
record_prints input = printed (judgement_of (lines_from [] input))
