-- How a script is cut into lines, byte by byte. Document 01, "Cases": "a line feed after each line". A line that can be played has
-- at most 34 bytes before its line feed, so the 35th byte of a longer one ends it.
use Rattle.std.specs.Prelude.{cond, List, [], ◌∷◌, ℕ, ◌+◌, set, eqb, ltb}
use Rattle.lines.specs.declared.Fed.{Fed}
use Rattle.lines.specs.declared.Fed.TheVariants.{More, Whole, TooLong}
use Rattle.lines.specs.declared.Cut.{Cut}

-- the longest line, without its line feed
abbrev pub longest : ℕ
longest = 34

-- a byte after `len` bytes of a line; 10 is the line feed
unfoldable pub fed_of : ℕ → ℕ → Fed
fed_of len b = cond (eqb b 10) (Whole len) (cond (ltb len longest) (More (len + 1)) TooLong)

-- what holds after a byte with which a line goes on, or after one that ends it
abbrev pub onward : {A : Type 0} → Fed → A → A → A
onward (More n) next ended = next
onward (Whole n) next ended = ended
onward TooLong next ended = ended

-- the line's buffer after a byte
abbrev pub line_with : ℕ → ℕ → List ℕ → List ℕ
line_with len b line = onward (fed_of len b) (set line len b) line

-- bytes, of which the first has the number `at`, taken into a line of `len` bytes up to the line's end: what became of the line, and
-- the number of the next byte
unfoldable pub cut_of : List ℕ → ℕ → ℕ → Cut
cut_of [] at len = record { fed = More len; at = at }
cut_of (b ∷ s) at len = onward (fed_of len b) (cut_of s (at + 1) (len + 1)) (record { fed = fed_of len b; at = at + 1 })

-- the line's buffer then
unfoldable pub line_cut : List ℕ → ℕ → List ℕ → List ℕ
line_cut [] len line = line
line_cut (b ∷ s) len line = onward (fed_of len b) (line_cut s (len + 1) (set line len b)) line
