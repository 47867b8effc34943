-- What a line of the program "windows" means. Its form is document 01's for text inputs: "one space between words, a line feed after each
-- line, and decimal numbers without leading zeros or plus sign"; a date is YYYY-MM-DD. The lines are `window FIRST LAST START END`,
-- `next DATE MINUTE`, `roll DATE` and `clear`; a line is given without its line feed. Characters are ASCII codes: 45 is "-".
use Rattle.std.specs.Prelude.{cond, ◌&&◌, List, [], ◌∷◌, ℕ, ◌+◌, ◌*◌, ◌-◌, ltb, eqb, length, get_or, None, Option, Some}
use Rattle.calendar.specs.Calendar.{date}
use Rattle.openings.specs.declared.Window.{Window}
use Rattle.openings.specs.declared.Moment.{Moment}
use Rattle.decimal.specs.Decimal.{is_digit, unsigned_word}
use Rattle.script.specs.Words.{words, same}
use Rattle.calendar.specs.declared.Date.{Date}
use Rattle.entries.specs.declared.Asked.{Asked}
use Rattle.entries.specs.declared.Asked.TheVariants as asked

-- what a line asks, or that it is malformed
abbrev pub Line : Type 0
Line = Option Asked

pattern abbrev pub Add : Window → Line
Add w = Some (asked.Add w)

pattern abbrev pub Next : Moment → Line
Next m = Some (asked.Next m)

pattern abbrev pub Roll : Date → Line
Roll d = Some (asked.Roll d)

pattern abbrev pub Clear : Line
Clear = Some asked.Clear

pattern abbrev pub Malformed : Line
Malformed = None

-- the lines' first words
abbrev pub window : List ℕ
window = 119 ∷ 105 ∷ 110 ∷ 100 ∷ 111 ∷ 119 ∷ []

abbrev pub next : List ℕ
next = 110 ∷ 101 ∷ 120 ∷ 116 ∷ []

abbrev pub roll : List ℕ
roll = 114 ∷ 111 ∷ 108 ∷ 108 ∷ []

abbrev pub clear : List ℕ
clear = 99 ∷ 108 ∷ 101 ∷ 97 ∷ 114 ∷ []

-- two digits as a number
unfoldable pub pair_of : ℕ → ℕ → Option ℕ
pair_of a b = cond (is_digit a && is_digit b) (Some ((a - 48) * 10 + (b - 48))) None

abbrev pub pair_at : List ℕ → ℕ → Option ℕ
pair_at w i = pair_of (get_or w i 0) (get_or w (i + 1) 0)

-- a date from its pairs of digits: those of the century, the year in it, the month and the day; it may not exist
abbrev pub date_from : Option ℕ → Option ℕ → Option ℕ → Option ℕ → Option Date
date_from (Some century) (Some year) (Some month) (Some day) = Some (date (century * 100 + year) month day)
date_from (Some century) (Some year) (Some month) None = None
date_from (Some century) (Some year) None day = None
date_from (Some century) None month day = None
date_from None year month day = None

-- the date that a word of ten bytes names: YYYY-MM-DD
unfoldable pub date_word : List ℕ → Option Date
date_word w =
    cond (eqb (length w) 10 && (eqb (get_or w 4 0) 45 && eqb (get_or w 7 0) 45)) (date_from (pair_at w 0) (pair_at w 2) (pair_at w 5) (pair_at w 8)) None

-- a line by what its words mean; a minute is a number below 65536, which may not be one of a day
abbrev pub roll_of : Option Date → Line
roll_of (Some d) = Roll d
roll_of None = Malformed

abbrev pub next_of : Option Date → Option ℕ → Line
next_of (Some d) (Some n) = cond (ltb n 65536) (Next (record { date = d; minute = n })) Malformed
next_of (Some d) None = Malformed
next_of None n = Malformed

abbrev pub window_of : Option Date → Option Date → Option ℕ → Option ℕ → Line
window_of (Some a) (Some b) (Some s) (Some e) = cond (ltb s 65536 && ltb e 65536) (Add (record { first = a; last = b; start = s; end = e })) Malformed
window_of (Some a) (Some b) (Some s) None = Malformed
window_of (Some a) (Some b) None e = Malformed
window_of (Some a) None s e = Malformed
window_of None b s e = Malformed

-- a line by its words
unfoldable pub clear_in : List ℕ → Line
clear_in v = cond (same v clear) Clear Malformed

unfoldable pub roll_in : List ℕ → List ℕ → Line
roll_in v d = cond (same v roll) (roll_of (date_word d)) Malformed

unfoldable pub next_in : List ℕ → List ℕ → List ℕ → Line
next_in v d n = cond (same v next) (next_of (date_word d) (unsigned_word n)) Malformed

unfoldable pub window_in : List ℕ → List ℕ → List ℕ → List ℕ → List ℕ → Line
window_in v a b s e = cond (same v window) (window_of (date_word a) (date_word b) (unsigned_word s) (unsigned_word e)) Malformed

unfoldable pub line_in : List (List ℕ) → Line
line_in [] = Malformed
line_in (v ∷ []) = clear_in v
line_in (v ∷ d ∷ []) = roll_in v d
line_in (v ∷ d ∷ n ∷ []) = next_in v d n
line_in (v ∷ a ∷ b ∷ s ∷ []) = Malformed
line_in (v ∷ a ∷ b ∷ s ∷ e ∷ []) = window_in v a b s e
line_in (v ∷ a ∷ b ∷ s ∷ e ∷ x ∷ l) = Malformed

abbrev pub line_of : List ℕ → Line
line_of s = line_in (words s)
