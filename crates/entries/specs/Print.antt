-- What the program "windows" prints as an answer. Characters are ASCII codes: 32 is the space, 10 the line feed.
use Rattle.std.specs.Prelude.{cond, List, [], ◌∷◌, ◌++◌, ℕ, ◌+◌, ◌/◌, ◌%◌}
use Rattle.calendar.specs.declared.Date.{Date}
use Rattle.calendar.specs.Calendar.{exists_of, roll_date}
use Rattle.decimal.specs.Decimal.{decimal}
use Rattle.openings.specs.declared.Opening.{Opening}
use Rattle.openings.specs.declared.Opening.TheVariants.{At, None, Refused}

-- a date is printed as YYYY-MM-DD
abbrev pub pair_text : ℕ → List ℕ
pair_text n = (48 + n / 10) ∷ (48 + n % 10) ∷ []

unfoldable pub date_text : Date → List ℕ
date_text d = pair_text (d.year / 100) ++ (pair_text (d.year % 100) ++ (45 ∷ pair_text d.month ++ (45 ∷ pair_text d.day)))

abbrev pub line_feed : List ℕ
line_feed = 10 ∷ []

-- "none", "refused " and "bad"
abbrev pub none_line : List ℕ
none_line = 110 ∷ 111 ∷ 110 ∷ 101 ∷ 10 ∷ []

abbrev pub refused_word : List ℕ
refused_word = 114 ∷ 101 ∷ 102 ∷ 117 ∷ 115 ∷ 101 ∷ 100 ∷ 32 ∷ []

abbrev pub bad_line : List ℕ
bad_line = 98 ∷ 97 ∷ 100 ∷ 10 ∷ []

unfoldable pub refused_line : ℕ → List ℕ
refused_line n = refused_word ++ (decimal n ++ line_feed)

-- the answer to `next`
abbrev pub opening_line : Opening → List ℕ
opening_line (At m) = date_text m.date ++ (32 ∷ decimal m.minute ++ line_feed)
opening_line None = none_line
opening_line (Refused n) = refused_line n

-- the answer to `roll`
unfoldable pub roll_line : Date → List ℕ
roll_line d = cond (exists_of d) (date_text (roll_date d) ++ line_feed) (refused_line 15)

-- a date and the day after it, as the test of the calendar prints them
abbrev pub days_line : Date → Date → List ℕ
days_line d next = date_text d ++ (32 ∷ date_text next ++ line_feed)

-- no line that is printed has more bytes
abbrev pub widest : ℕ
widest = 32
