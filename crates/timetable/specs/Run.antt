-- A run of the program "windows": where it stands between two bytes, and what each prints. That pieces of the input print together what
-- the whole prints, however it is cut, is the statement `PrintsInPieces`, proved in proofs/Pieces.antt.
use Rattle.std.specs.Prelude.{◌≡◌, Bool, false, cond, List, [], ◌∷◌, ◌++◌, ℕ, ◌<◌, eqb, ltb, length, take}
use Rattle.openings.specs.declared.Window.{Window}
use Rattle.entries.specs.Line.{Line}
use Rattle.entries.specs.Line.{Malformed}
use Rattle.entries.specs.Line.{line_of}
use Rattle.entries.specs.Print.{bad_line}
use Rattle.timetable.specs.declared.Playing.{Playing}
use Rattle.timetable.specs.declared.Table.{Table}
use Rattle.timetable.specs.Table.{line_list, line_prints, line_stops, list_in}

-- the list of windows, the bytes of the line so far, and whether "bad" was printed, after which nothing is played
pub record Standing : Type 0 where
  pub list : List Window
  pub line : List ℕ
  pub stopped : Bool

abbrev pub start : Standing
start = record { list = []; line = []; stopped = false }

-- at the end of a line
abbrev pub ended : Line → List Window → Standing
ended l ws = record { list = line_list l ws; line = []; stopped = line_stops l }

-- a byte within a line
abbrev pub within : Standing → ℕ → Standing
within s b = record { list = s.list; line = s.line ++ (b ∷ []); stopped = false }

-- the longest line that is not malformed has 40 bytes: `window` with two dates and two numbers of five digits. A longer one is malformed at once
abbrev pub longest : ℕ
longest = 40

-- so no line is lost by the limit; proofs/LongLines.antt
abbrev pub LongLines : Type 0
LongLines = (line : List ℕ) → longest < length line → line_of line ≡ Malformed

-- after one byte more; 10 is the line feed
unfoldable pub after_byte : Standing → ℕ → Standing
after_byte s b =
    cond s.stopped s
    (cond (eqb b 10) (ended (line_of s.line) s.list)
    (cond (ltb (length s.line) longest) (within s b) (ended Malformed s.list)))

unfoldable pub byte_prints : Standing → ℕ → List ℕ
byte_prints s b =
    cond s.stopped []
    (cond (eqb b 10) (line_prints (line_of s.line) s.list)
    (cond (ltb (length s.line) longest) [] bad_line))

-- after some bytes, and what they print
unfoldable pub after : Standing → List ℕ → Standing
after s [] = s
after s (b ∷ piece) = after (after_byte s b) piece

unfoldable pub prints : Standing → List ℕ → List ℕ
prints s [] = []
prints s (b ∷ piece) = byte_prints s b ++ prints (after_byte s b) piece

-- at the end of the input: a last line without its line feed is malformed
abbrev pub at_end : List ℕ → List ℕ
at_end [] = []
at_end (b ∷ line) = bad_line

abbrev pub end_prints : Standing → List ℕ
end_prints s = cond s.stopped [] (at_end s.line)

-- what the program prints of its whole input
unfoldable pub windows_of : List ℕ → List ℕ
windows_of input = prints start input ++ end_prints (after start input)

-- what pieces print, one after the other, and then the end of the input; and the input that they are cut from
unfoldable pub all_print : Standing → List (List ℕ) → List ℕ
all_print s [] = end_prints s
all_print s (piece ∷ pieces) = prints s piece ++ all_print (after s piece) pieces

unfoldable pub joined : List (List ℕ) → List ℕ
joined [] = []
joined (piece ∷ pieces) = piece ++ joined pieces

abbrev pub PrintsInPieces : Type 0
PrintsInPieces = (pieces : List (List ℕ)) → all_print start pieces ≡ windows_of (joined pieces)

-- ---- as the code keeps it
abbrev pub standing_of : Table → List ℕ → ℕ → Bool → Standing
standing_of t line len stopped = record { list = list_in t; line = take len line; stopped = stopped }

abbrev pub standing : Playing → Standing
standing p = standing_of p.table p.line p.len p.stopped
