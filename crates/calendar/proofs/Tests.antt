-- Each definition of the calendar, once its tests are known: what a function's `return` cites. A law takes the facts that led to
-- the `return`, so that no proof counts the statements before it.
use mathlib.Core.Path.{◌≡◌, ◌∙◌}
use Prim.Native.Nat.{ℕ, ◌+◌, ◌%◌, ◌≤◌, ◌<◌}
use native.Mathlib.Omega.{arith}
use mathlib.Core.Bool.{Bool, true, false, cond}
use lib.Dec.{leb, eqb}
use borrow.Author.Tests.{lt-ltb, le-ltb, le-leb, lt-leb, eq-eqb, ne_eqb}
use Rattle.calendar.specs.declared.Date.{Date}
use Rattle.calendar.specs.Calendar.{date, last_day, leap_of, short_month, days_of, exists_of, not_after, next_day, roll_code, roll_date}

-- ---- a leap year
pub leap_400 : (y : ℕ) → y % 400 ≡ 0 → true ≡ leap_of y
unfolding leap_of
leap_400 y e = simp (eq-eqb _ _ e)

pub leap_100 : (y : ℕ) → (y % 400 ≡ 0 → ⊥) → y % 100 ≡ 0 → false ≡ leap_of y
unfolding leap_of
leap_100 y n e = simp (ne_eqb _ _ n, eq-eqb _ _ e)

pub leap_4 : (y : ℕ) → (y % 400 ≡ 0 → ⊥) → (y % 100 ≡ 0 → ⊥) → eqb (y % 4) 0 ≡ leap_of y
unfolding leap_of
leap_4 y n m = simp (ne_eqb _ _ n, ne_eqb _ _ m)

-- ---- the days of a month
pub in_february : (y m : ℕ) (b : Bool) → m ≡ 2 → leap_of y ≡ b → cond b 29 28 ≡ days_of y m
unfolding days_of
in_february y m b e l = simp (eq-eqb _ _ e, l)

pub short_month_lem : (y m k : ℕ) → m ≡ k → eqb k 2 ≡ false → short_month k ≡ true → 30 ≡ days_of y m
unfolding days_of
short_month_lem y m k e a b = simp (e, a, b)

pub long_month : (y m : ℕ) → (m ≡ 2 → ⊥) → (m ≡ 4 → ⊥) → (m ≡ 6 → ⊥) → (m ≡ 9 → ⊥) → (m ≡ 11 → ⊥) → 31 ≡ days_of y m
unfolding days_of
long_month y m a b c d e = simp (ne_eqb _ _ a, ne_eqb _ _ b, ne_eqb _ _ c, ne_eqb _ _ d, ne_eqb _ _ e)

-- at most 31
pub days_fit : (y m : ℕ) → days_of y m ≤ 31
unfolding days_of
days_fit y m = by_cases (eqb m 2) (leap_of y) (short_month m)
  where
    by_cases : (a b c : Bool) → cond a (cond b 29 28) (cond c 30 31) ≤ 31
    by_cases true true c = omega arith
    by_cases true false c = omega arith
    by_cases false b true = omega arith
    by_cases false b false = omega arith

-- at least 28
pub days_some : (y m : ℕ) → 28 ≤ days_of y m
unfolding days_of
days_some y m = by_cases (eqb m 2) (leap_of y) (short_month m)
  where
    by_cases : (a b c : Bool) → 28 ≤ cond a (cond b 29 28) (cond c 30 31)
    by_cases true true c = omega arith
    by_cases true false c = omega arith
    by_cases false b true = omega arith
    by_cases false b false = omega arith

-- ---- a date that exists
pub too_early_lem : (d : Date) → d.year < 2000 → false ≡ exists_of d
unfolding exists_of
too_early_lem d a = simp (lt-leb _ _ a)

pub too_late : (d : Date) → 2000 ≤ d.year → 2099 < d.year → false ≡ exists_of d
unfolding exists_of
too_late d a b = simp (le-leb _ _ a, lt-leb _ _ b)

pub no_month : (d : Date) → 2000 ≤ d.year → d.year ≤ 2099 → d.month < 1 → false ≡ exists_of d
unfolding exists_of
no_month d a b c = simp (le-leb _ _ a, le-leb _ _ b, lt-leb _ _ c)

pub past_december : (d : Date) → 2000 ≤ d.year → d.year ≤ 2099 → 1 ≤ d.month → 12 < d.month → false ≡ exists_of d
unfolding exists_of
past_december d a b c e = simp (le-leb _ _ a, le-leb _ _ b, le-leb _ _ c, lt-leb _ _ e)

pub no_day : (d : Date) → 2000 ≤ d.year → d.year ≤ 2099 → 1 ≤ d.month → d.month ≤ 12 → d.day < 1 → false ≡ exists_of d
unfolding exists_of
no_day d a b c e f = simp (le-leb _ _ a, le-leb _ _ b, le-leb _ _ c, le-leb _ _ e, lt-leb _ _ f)

pub by_days : (d : Date) (n : ℕ) → 2000 ≤ d.year → d.year ≤ 2099 → 1 ≤ d.month → d.month ≤ 12 → 1 ≤ d.day → n ≡ days_of d.year d.month
    → leb d.day n ≡ exists_of d
unfolding exists_of
by_days d n a b c e f g = simp (le-leb _ _ a, le-leb _ _ b, le-leb _ _ c, le-leb _ _ e, le-leb _ _ f, g)

-- ---- the day after
pub next_in_month : (d : Date) → d.day < days_of d.year d.month → date d.year d.month (d.day + 1) ≡ next_day d
unfolding next_day
next_in_month d a = simp (lt-ltb _ _ a)

pub next_month : (d : Date) → days_of d.year d.month ≤ d.day → d.month < 12 → date d.year (d.month + 1) 1 ≡ next_day d
unfolding next_day
next_month d a b = simp (le-ltb _ _ a, lt-ltb _ _ b)

pub next_year : (d : Date) → days_of d.year d.month ≤ d.day → 12 ≤ d.month → d.year < 2099 → date (d.year + 1) 1 1 ≡ next_day d
unfolding next_day
next_year d a b c = simp (le-ltb _ _ a, le-ltb _ _ b, lt-ltb _ _ c)

pub last-stays : (d : Date) → days_of d.year d.month ≤ d.day → 12 ≤ d.month → 2099 ≤ d.year → last_day ≡ next_day d
unfolding next_day
last-stays d a b c = simp (le-ltb _ _ a, le-ltb _ _ b, le-ltb _ _ c)

-- ---- a roll
pub rolls : (d r : Date) → exists_of d ≡ true → r ≡ next_day d → (r ≡ roll_date d) × (0 ≡ roll_code d)
unfolding roll_date roll_code
rolls d r e g = (g ∙ simp e, simp e)

pub rolls_not : (d : Date) → exists_of d ≡ false → (d ≡ roll_date d) × (15 ≡ roll_code d)
unfolding roll_date roll_code
rolls_not d e = (simp e, simp e)

-- ---- the order of dates
pub earlier_year : (a b : Date) → a.year < b.year → true ≡ not_after a b
unfolding not_after
earlier_year a b h = simp (lt-ltb _ _ h)

pub later_year : (a b : Date) → b.year < a.year → false ≡ not_after a b
unfolding not_after
later_year a b h = simp (le-ltb a.year b.year (omega arith), lt-ltb _ _ h)

pub earlier_month : (a b : Date) → b.year ≤ a.year → a.year ≤ b.year → a.month < b.month → true ≡ not_after a b
unfolding not_after
earlier_month a b g h k = simp (le-ltb _ _ g, le-ltb _ _ h, lt-ltb _ _ k)

pub later_month : (a b : Date) → b.year ≤ a.year → a.year ≤ b.year → b.month < a.month → false ≡ not_after a b
unfolding not_after
later_month a b g h k = simp (le-ltb _ _ g, le-ltb _ _ h, le-ltb a.month b.month (omega arith), lt-ltb _ _ k)

pub by_day : (a b : Date) → b.year ≤ a.year → a.year ≤ b.year → b.month ≤ a.month → a.month ≤ b.month → leb a.day b.day ≡ not_after a b
unfolding not_after
by_day a b g h k l = simp (le-ltb _ _ g, le-ltb _ _ h, le-ltb _ _ k, le-ltb _ _ l)
