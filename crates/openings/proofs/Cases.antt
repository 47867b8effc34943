-- The definition of the search, computed on small lists.
use mathlib.Core.Path.{◌≡◌, refl}
use mathlib.Core.Bool.{false}
use mathlib.Core.List.{List, [], ◌∷◌, map}
use Prim.Native.Nat.{ℕ, zero, suc}
use Rattle.calendar.specs.declared.Date.{Date}
use Rattle.calendar.specs.Calendar.{date, leap_of, days_of, exists_of, not_after, next_day, roll_date}
use Rattle.openings.specs.declared.Window.{Window}
use Rattle.openings.specs.declared.Opening.{Opening}
use Rattle.openings.specs.declared.Opening.TheVariants.{At, None, Refused}
use Rattle.openings.specs.Windows.{moment, minute_exists, window_exists, all_exist, before}
use Rattle.openings.specs.Find.{lasts_on, candidate_of, earliest_of, in_order, find_of}

abbrev window : Date → Date → ℕ → ℕ → Window
window a b s e = record { first = a; last = b; start = s; end = e }

-- around a 29 February, minutes 600 to 659
abbrev leap : Window
leap = window (date 2024 2 27) (date 2024 3 1) 600 660

abbrev copies : ℕ → Window → List Window
copies zero w = []
copies (suc n) w = w ∷ copies n w

-- an empty list has none
empty : find_of [] (moment (date 2024 2 28) 0) ≡ None
unfolding find_of in_order minute_exists all_exist earliest_of exists_of days_of leap_of
empty = refl

-- the window began before the given date, and its day has not: the start is included
begun : find_of (leap ∷ []) (moment (date 2024 2 28) 0) ≡ At (moment (date 2024 2 28) 600)
unfolding find_of in_order minute_exists window_exists all_exist lasts_on candidate_of earliest_of before exists_of not_after days_of leap_of
begun = refl

-- its last minute of the day, and the end, which is excluded: the next day is 29 February
last_minute : find_of (leap ∷ []) (moment (date 2024 2 28) 659) ≡ At (moment (date 2024 2 28) 659)
unfolding find_of in_order minute_exists window_exists all_exist lasts_on candidate_of earliest_of before exists_of not_after days_of leap_of
last_minute = refl

end_excluded : find_of (leap ∷ []) (moment (date 2024 2 28) 660) ≡ At (moment (date 2024 2 29) 600)
unfolding find_of in_order minute_exists window_exists all_exist lasts_on candidate_of earliest_of before exists_of not_after roll_date next_day days_of leap_of
end_excluded = refl

-- the last date is included, and after its minutes there is none
over : find_of (leap ∷ []) (moment (date 2024 3 1) 660) ≡ None
unfolding find_of in_order minute_exists window_exists all_exist lasts_on candidate_of earliest_of before exists_of not_after days_of leap_of
over = refl

-- of two windows the earlier minute, wherever it stands
earlier : find_of (leap ∷ window (date 2024 2 28) (date 2024 2 28) 30 31 ∷ []) (moment (date 2024 2 28) 0) ≡ At (moment (date 2024 2 28) 30)
unfolding find_of in_order minute_exists window_exists all_exist lasts_on candidate_of earliest_of before exists_of not_after days_of leap_of
earlier = refl

-- a window up to the calendar's last day: after that day's minutes there is none, and the roll, which would give the same day back, is not asked
last_day_lem : find_of (window (date 2000 1 1) (date 2099 12 31) 0 1439 ∷ []) (moment (date 2099 12 31) 1439) ≡ None
unfolding find_of in_order minute_exists window_exists all_exist lasts_on candidate_of earliest_of before exists_of not_after days_of leap_of
last_day_lem = refl

-- a span of one day, up to the end of the day: 1440 is an end, and the day's last minute is found
one_day : find_of (window (date 2024 2 29) (date 2024 2 29) 0 1440 ∷ []) (moment (date 2024 2 29) 1439) ≡ At (moment (date 2024 2 29) 1439)
unfolding find_of in_order minute_exists window_exists all_exist lasts_on candidate_of earliest_of before exists_of not_after days_of leap_of
one_day = refl

-- refused: minute 1440, 30 February
minute_1440 : find_of [] (moment (date 2024 2 28) 1440) ≡ Refused 15
unfolding find_of in_order minute_exists all_exist exists_of days_of leap_of
minute_1440 = refl

february_30 : find_of [] (moment (date 2024 2 30) 0) ≡ Refused 15
unfolding find_of in_order minute_exists all_exist exists_of days_of leap_of
february_30 = refl

-- no windows: an empty minute span, one backwards, minutes above 1440, first and last dates that do not exist, dates that end before they start
abbrev no_windows : List Window
no_windows =
    window (date 2024 3 1) (date 2024 3 1) 600 600 ∷ window (date 2024 3 1) (date 2024 3 1) 601 600
    ∷ window (date 2024 3 1) (date 2024 3 1) 600 1441 ∷ window (date 2023 2 29) (date 2024 3 1) 600 660
    ∷ window (date 2024 3 1) (date 2100 1 1) 600 660 ∷ window (date 2024 3 2) (date 2024 3 1) 0 1440 ∷ []

bad_windows : map window_exists no_windows ≡ false ∷ false ∷ false ∷ false ∷ false ∷ false ∷ []
unfolding window_exists exists_of not_after days_of leap_of
bad_windows = refl

-- each is refused in any place: alone, before a good one and after it
abbrev found_with : Window → List Opening
found_with w =
    find_of (w ∷ []) (moment (date 2024 2 28) 0) ∷ find_of (w ∷ leap ∷ []) (moment (date 2024 2 28) 0) ∷ find_of (leap ∷ w ∷ []) (moment (date 2024 2 28) 0) ∷ []

refused_in_any_place : map found_with no_windows ≡ map (λ w. Refused 15 ∷ Refused 15 ∷ Refused 15 ∷ []) no_windows
unfolding find_of in_order minute_exists window_exists all_exist exists_of not_after days_of leap_of
refused_in_any_place = refl

-- 32 windows are taken, and 33 are not, also where all are good
thirty_two : find_of (copies 32 leap) (moment (date 2024 2 28) 600) ≡ At (moment (date 2024 2 28) 600)
unfolding find_of in_order minute_exists window_exists all_exist lasts_on candidate_of earliest_of before exists_of not_after days_of leap_of
thirty_two = refl

thirty_three : find_of (copies 33 leap) (moment (date 2024 2 28) 600) ≡ Refused 15
unfolding find_of in_order
thirty_three = refl
