-- Windows and minutes: which there are, and which minute lies in which window. Document 02, P10: "A window is a span of dates, both
-- included, and a span of minutes of the day, start included, end excluded and at most 1440."
use Rattle.std.specs.Prelude.{ℕ, ◌+◌, ◌*◌, Bool, true, false, cond, ◌&&◌, ◌||◌, List, [], ◌∷◌, ltb, leb}
use Rattle.calendar.specs.declared.Date.{Date}
use Rattle.calendar.specs.Calendar.{exists_of, not_after, day_number}
use Rattle.openings.specs.declared.Window.{Window}
use Rattle.openings.specs.declared.Moment.{Moment}

abbrev pub moment : Date → ℕ → Moment
moment d k = record { date = d; minute = k }

-- a minute of the calendar
unfoldable pub minute_exists : Moment → Bool
minute_exists m = exists_of m.date && ltb m.minute 1440

-- "a .. window that doesn't exist, an empty minute span or a date span that ends before it starts among them"
unfoldable pub window_exists : Window → Bool
window_exists w = exists_of w.first && (exists_of w.last && (not_after w.first w.last && (ltb w.start w.end && leb w.end 1440)))

unfoldable pub all_exist : List Window → Bool
all_exist [] = true
all_exist (w ∷ ws) = window_exists w && all_exist ws

-- a is before b: by the date, then the minute
unfoldable pub before : Moment → Moment → Bool
before a b = cond (not_after a.date b.date) (cond (not_after b.date a.date) (ltb a.minute b.minute) true) false

-- ---- what the promises speak of, and no code rests on

-- how many minutes m lies after the calendar's first
unfoldable pub minute_number : Moment → ℕ
minute_number m = day_number m.date * 1440 + m.minute

-- m lies in a window
unfoldable pub lies_in : Window → Moment → Bool
lies_in w m = (not_after w.first m.date && not_after m.date w.last) && (leb w.start m.minute && ltb m.minute w.end)

-- m lies in one of the windows
unfoldable pub is_open : List Window → Moment → Bool
is_open [] m = false
is_open (w ∷ ws) m = lies_in w m || is_open ws m
