-- The earliest open minute. Document 02, P10: "A list has at most 32 window records"; "A call finds the earliest minute, not before a
-- given one, that lies in a window; "none" means that there is none up to the end of 2099"; "A list too long, or a date, minute or window
-- that doesn't exist .. is refused as 15 before any search."
use Rattle.std.specs.Prelude.{ℕ, max, Bool, cond, not, ◌&&◌, List, [], ◌∷◌, ltb, leb, length}
use Rattle.calendar.specs.Calendar.{not_after, roll_date}
use Rattle.openings.specs.declared.Window.{Window}
use Rattle.openings.specs.declared.Moment.{Moment}
use Rattle.openings.specs.declared.Opening.{Opening}
use Rattle.openings.specs.declared.Opening.TheVariants.{At, None, Refused}
use Rattle.openings.specs.Windows.{moment, minute_exists, all_exist, before}

-- w's dates are not over on m's day, and its minutes not by m's minute
unfoldable pub lasts_on : Window → Moment → Bool
lasts_on w m = not_after m.date w.last && ltb m.minute w.end

-- the earliest minute of w that is not before m: the window's first minute where its dates have not come yet; else one of this day; else
-- none where this day is its last or later; else the next day's first
unfoldable pub candidate_of : Window → Moment → Opening
candidate_of w m =
    cond (not (not_after w.first m.date)) (At (moment w.first w.start))
    (cond (lasts_on w m) (At (moment m.date (max m.minute w.start)))
    (cond (not_after w.last m.date) None
    (At (moment (roll_date m.date) w.start))))

abbrev pub first_of : Moment → Moment → Moment
first_of a b = cond (before a b) a b

-- the earlier of what was found so far and one window's minute
abbrev pub earlier_of : Opening → Opening → Opening
earlier_of (At b) (At a) = At (first_of a b)
earlier_of (At b) None = At b
earlier_of (At b) (Refused n) = At b
earlier_of None c = c
earlier_of (Refused n) c = Refused n

-- the earliest of the windows, after what was found before them
unfoldable pub earliest_of : Moment → Opening → List Window → Opening
earliest_of m best [] = best
earliest_of m best (w ∷ ws) = earliest_of m (earlier_of best (candidate_of w m)) ws

-- the question before any search
unfoldable pub in_order : List Window → Moment → Bool
in_order ws m = leb (length ws) 32 && (minute_exists m && all_exist ws)

unfoldable pub find_of : List Window → Moment → Opening
find_of ws m = cond (in_order ws m) (earliest_of m None ws) (Refused 15)

-- ---- the answer in numbers: its refusal's number, 0 where it is none, and its values, which a minute alone has
abbrev pub opening_number : Opening → ℕ
opening_number (At m) = 0
opening_number None = 0
opening_number (Refused n) = n

abbrev pub opening_values : Opening → List ℕ
opening_values (At m) = m.date.year ∷ m.date.month ∷ m.date.day ∷ m.minute ∷ []
opening_values None = []
opening_values (Refused n) = []
