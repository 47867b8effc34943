-- A record that comes in pieces: what is kept of it between two bytes. That pieces together are judged as the whole record is, however it is
-- cut, is the statement `JudgedInPieces`, proved in proofs/Pieces.antt.
use Rattle.std.specs.Prelude.{◌≡◌, cond, List, [], ◌∷◌, ◌++◌, ℕ, ◌<◌, eqb, ltb, length, take}
use Rattle.record.specs.declared.Line.{Line}
use Rattle.record.specs.Line.{malformed, line_of}
use Rattle.ledger.specs.Judgement.{most_lines, judgement_of}
use Rattle.judgement.specs.declared.Noted.{Noted}
use Rattle.judgement.specs.declared.Kept.{Kept}
use Rattle.judgement.specs.Record.{printed, record_prints}

-- the lines so far, and the bytes of the next one so far. One line more than 1,024 tells that there are too many, and one byte more than the
-- longest line has, of 62 bytes, tells that the line is malformed: what comes after those is not kept
pub record Standing : Type 0 where
  pub lines : List Line
  pub line : List ℕ

abbrev pub start : Standing
start = record { lines = []; line = [] }

abbrev pub line_places : ℕ
line_places = 1025

abbrev pub byte_places : ℕ
byte_places = 63

-- one more, where there is a place
abbrev pub added : {A : Type 0} → ℕ → List A → A → List A
added places l x = cond (ltb (length l) places) (l ++ (x ∷ [])) l

abbrev pub within : List Line → List ℕ → Standing
within lines line = record { lines = lines; line = line }

abbrev pub ended : List Line → Line → Standing
ended lines l = within (added line_places lines l) []

-- after one byte more
unfoldable pub after_byte : Standing → ℕ → Standing
after_byte s b = cond (eqb b 10) (ended s.lines (line_of s.line)) (within s.lines (added byte_places s.line b))

unfoldable pub after : Standing → List ℕ → Standing
after s [] = s
after s (b ∷ piece) = after (after_byte s b) piece

-- at the end of the record
abbrev pub closed : List Line → List ℕ → List Line
closed lines [] = lines
closed lines (b ∷ line) = added line_places lines malformed

unfoldable pub end_prints : Standing → List ℕ
end_prints s = printed (judgement_of (closed s.lines s.line))

-- pieces, one after the other, and then the end of the record; and the record that they are cut from
unfoldable pub all_print : Standing → List (List ℕ) → List ℕ
all_print s [] = end_prints s
all_print s (piece ∷ pieces) = all_print (after s piece) pieces

unfoldable pub joined : List (List ℕ) → List ℕ
joined [] = []
joined (piece ∷ pieces) = piece ++ joined pieces

abbrev pub JudgedInPieces : Type 0
JudgedInPieces = (pieces : List (List ℕ)) → all_print start pieces ≡ record_prints (joined pieces)

-- once there are too many lines, what comes after does not count
abbrev pub TooManyStays : Type 0
TooManyStays = (s : Standing) (rest : List ℕ) → most_lines < length s.lines → end_prints (after s rest) ≡ end_prints s

-- ---- as the code keeps it
abbrev pub lines_in : Noted → List Line
lines_in n = take n.count n.lines

abbrev pub standing : Kept → Standing
standing k = within (lines_in k.noted) (take k.len k.line)
