-- The calendar of the years 2000 to 2099: which dates there are, their order, the day after a date, and how many days a date lies
-- after the first. Document 02, P10: "over the years 2000 to 2099 of the Gregorian calendar"; "The date is rolled forward one day, across
-- month ends and 29 February; the last day stays. The calendar's first and last day belong to the date itself as named constants."
use Rattle.std.specs.Prelude.{ℕ, zero, suc, ◌+◌, ◌-◌, ◌%◌, Bool, true, false, cond, ◌&&◌, ◌||◌, ltb, leb, eqb}
use Rattle.calendar.specs.declared.Date.{Date}

abbrev pub date : ℕ → ℕ → ℕ → Date
date y m d = record { year = y; month = m; day = d }

abbrev pub first_day : Date
first_day = date 2000 1 1

abbrev pub last_day : Date
last_day = date 2099 12 31

-- the Gregorian rule: every fourth year has 29 February, of the years that end a century only every fourth
unfoldable pub leap_of : ℕ → Bool
leap_of y = cond (eqb (y % 400) 0) true (cond (eqb (y % 100) 0) false (eqb (y % 4) 0))

-- April, June, September, November
abbrev pub short_month : ℕ → Bool
short_month m = eqb m 4 || (eqb m 6 || (eqb m 9 || eqb m 11))

-- how many days a month has
unfoldable pub days_of : ℕ → ℕ → ℕ
days_of y m = cond (eqb m 2) (cond (leap_of y) 29 28) (cond (short_month m) 30 31)

-- a date of the calendar
unfoldable pub exists_of : Date → Bool
exists_of d =
    leb 2000 d.year && (leb d.year 2099 && (leb 1 d.month && (leb d.month 12 && (leb 1 d.day && leb d.day (days_of d.year d.month)))))

-- a is b or before it: by the year, then the month, then the day
unfoldable pub not_after : Date → Date → Bool
not_after a b =
    cond (ltb a.year b.year) true
    (cond (ltb b.year a.year) false
    (cond (ltb a.month b.month) true (cond (ltb b.month a.month) false (leb a.day b.day))))

-- "rolled forward one day, across month ends and 29 February; the last day stays"
unfoldable pub next_day : Date → Date
next_day d =
    cond (ltb d.day (days_of d.year d.month)) (date d.year d.month (d.day + 1))
    (cond (ltb d.month 12) (date d.year (d.month + 1) 1)
    (cond (ltb d.year 2099) (date (d.year + 1) 1 1) last_day))

-- a roll's number and what it leaves: "a date .. that doesn't exist .. is refused as 15", and stays as it was
unfoldable pub roll_code : Date → ℕ
roll_code d = cond (exists_of d) 0 15

unfoldable pub roll_date : Date → Date
roll_date d = cond (exists_of d) (next_day d) d

-- ---- the count of days, which no code rests on

-- the days of the first m months of year y, and of the k years from 2000 on
unfoldable pub before_month : ℕ → ℕ → ℕ
before_month y zero = 0
before_month y (suc m) = before_month y m + days_of y (m + 1)

unfoldable pub before_year : ℕ → ℕ
before_year zero = 0
before_year (suc k) = before_year k + before_month (2000 + k) 12

-- how many days d lies after 2000-01-01
unfoldable pub day_number : Date → ℕ
day_number d = before_year (d.year - 2000) + (before_month d.year (d.month - 1) + (d.day - 1))
