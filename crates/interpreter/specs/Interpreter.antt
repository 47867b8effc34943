-- A script that comes in pieces: where its playing stands between two of them, and what each piece prints. That the pieces together
-- print what the whole script does, `prints_of` of the crate player, is the statement `PrintsInPieces`, proved in proofs/Pieces.antt.
use Rattle.std.specs.Prelude.{◌≡◌, Bool, false, cond, List, [], ◌∷◌, ◌++◌, ℕ, eqb, ltb, length, take}
use Rattle.lines.specs.Cut.{longest}
use Rattle.script.specs.Line.{Line}
use Rattle.script.specs.Line.{Malformed}
use Rattle.script.specs.Line.{line_of}
use Rattle.store.specs.Store.{kept}
use Rattle.player.specs.House.{House, opened, line_prints, line_house, line_stops, at_end, prints_of}
use Rattle.interpreter.specs.declared.Pair.{Pair}
use Rattle.interpreter.specs.declared.Playing.{Playing}

-- the house, the bytes of the line so far, and whether "bad" was printed, after which nothing is played
pub record Standing : Type 0 where
  pub house : House
  pub line : List ℕ
  pub stopped : Bool

-- before the first byte, for a program that explains or not
abbrev pub start : Bool → Standing
start explains = record { house = opened explains; line = []; stopped = false }

-- in the middle of a line
abbrev pub within : House → List ℕ → Standing
within h line = record { house = h; line = line; stopped = false }

-- at the end of a line
abbrev pub ended : Line → House → Standing
ended l h = record { house = line_house l h; line = []; stopped = line_stops l h }

-- after one byte more; 10 is the line feed. A line that has more bytes than any that can be played is malformed at once
unfoldable pub after_byte : Standing → ℕ → Standing
after_byte s b =
    cond s.stopped s
    (cond (eqb b 10) (ended (line_of s.line) s.house)
    (cond (ltb (length s.line) longest) (within s.house (s.line ++ (b ∷ []))) (ended Malformed s.house)))

unfoldable pub byte_prints : Standing → ℕ → List ℕ
byte_prints s b =
    cond s.stopped []
    (cond (eqb b 10) (line_prints (line_of s.line) s.house)
    (cond (ltb (length s.line) longest) [] (line_prints Malformed s.house)))

-- after a piece, and what it prints
unfoldable pub after : Standing → List ℕ → Standing
after s [] = s
after s (b ∷ piece) = after (after_byte s b) piece

unfoldable pub prints : Standing → List ℕ → List ℕ
prints s [] = []
prints s (b ∷ piece) = byte_prints s b ++ prints (after_byte s b) piece

-- what is printed at the end of the input
abbrev pub end_prints : Standing → List ℕ
end_prints s = cond s.stopped [] (at_end s.line)

-- what pieces print, one after the other, and then the end of the input
unfoldable pub all_print : Standing → List (List ℕ) → List ℕ
all_print s [] = end_prints s
all_print s (piece ∷ pieces) = prints s piece ++ all_print (after s piece) pieces

-- the script that they are cut from
unfoldable pub joined : List (List ℕ) → List ℕ
joined [] = []
joined (piece ∷ pieces) = piece ++ joined pieces

-- however a script is cut, its pieces print together what is printed from the whole: by "house", and by "why"
abbrev pub PrintsInPieces : Type 0
PrintsInPieces = (explains : Bool) (pieces : List (List ℕ)) → all_print (start explains) pieces ≡ prints_of explains (joined pieces)

-- ---- as the code keeps it

abbrev pub house_in : Pair → House
house_in p = record { zero = p.zero; one = p.one; messages = kept p.store; explains = p.explains }

abbrev pub standing_of : Pair → List ℕ → ℕ → Bool → Standing
standing_of p line len stopped = record { house = house_in p; line = take len line; stopped = stopped }

abbrev pub standing : Playing → Standing
standing p = standing_of p.pair p.line p.len p.stopped
