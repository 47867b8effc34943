-- The lens windows of document 02, P10, on plain numbers. "A list too long, or a date, minute or window that doesn't exist .. is refused as 15": also
-- where a number is too large for its field, since it then becomes the field's largest, which no date and no minute has.
use Rattle.std.specs.Prelude.{ℕ, ◌+◌, ◌*◌, ◌/◌, ◌%◌, min, cond, List, length, get_or, eqb}
use Rattle.message.specs.Section.{entries}
use Rattle.calendar.specs.declared.Date.{Date}
use Rattle.calendar.specs.Calendar.{date, roll_date, roll_code, first_day}
use Rattle.openings.specs.declared.Window.{Window}
use Rattle.openings.specs.declared.Moment.{Moment}
use Rattle.openings.specs.declared.Opening.{Opening}
use Rattle.openings.specs.declared.Opening.TheVariants.{At, None, Refused}
use Rattle.openings.specs.Windows.{moment}
use Rattle.openings.specs.Find.{find_of}
use Rattle.lent_answer.specs.Number.{NOTHING, AT, of_kind}

-- ---- from numbers: year and minutes of 16 bits, month and day of 8
abbrev pub date_of : ℕ → ℕ → ℕ → Date
date_of y m d = date (min y 65535) (min m 255) (min d 255)

abbrev pub moment_of : ℕ → ℕ → ℕ → ℕ → Moment
moment_of y m d k = moment (date_of y m d) (min k 65535)

-- a window is eight numbers: first year month day, last year month day, start, end
abbrev pub window_numbers : ℕ
window_numbers = 8

abbrev pub window_of : List ℕ → Window
window_of s = record {
  first = date_of (get_or s 0 0) (get_or s 1 0) (get_or s 2 0);
  last = date_of (get_or s 3 0) (get_or s 4 0) (get_or s 5 0);
  start = min (get_or s 6 0) 65535;
  end = min (get_or s 7 0) 65535;
}

abbrev pub windows_of : List ℕ → List Window
windows_of s = entries window_of window_numbers (length s / window_numbers) s

-- ---- the answer: a minute as year × 2^20 + month × 2^16 + day × 2^11 + minute of the day
abbrev pub packed : Moment → ℕ
packed m = m.date.year * 1048576 + m.date.month * 65536 + m.date.day * 2048 + m.minute

abbrev pub at_number : Moment → ℕ
at_number m = of_kind AT (packed m)

abbrev pub opening_code : Opening → ℕ
opening_code (At m) = at_number m
opening_code None = of_kind NOTHING 0
opening_code (Refused n) = n

-- ---- the calls: the minute, NOTHING where "there is none up to the end of 2099", or 15, also where a window lacks some of its numbers
unfoldable pub find_number : List ℕ → ℕ → ℕ → ℕ → ℕ → ℕ
find_number ws y m d k = cond (eqb (length ws % window_numbers) 0) (opening_code (find_of (windows_of ws) (moment_of y m d k))) 15

-- "The date is rolled forward one day, across month ends and 29 February; the last day stays": the next day at minute 0, or 15
unfoldable pub roll_number : ℕ → ℕ → ℕ → ℕ
roll_number y m d =
    let code = roll_code (date_of y m d) in
    cond (eqb code 0) (at_number (moment (roll_date (date_of y m d)) 0)) code

-- ---- what the functions below the calls fill: an array with a place more than the longest list, and a window for the places left over
abbrev pub places : ℕ
places = 33

abbrev pub blank : Window
blank = record { first = first_day; last = first_day; start = 0; end = 0 }
