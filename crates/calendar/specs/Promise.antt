-- What is proved of the calendar, over all its dates. The proofs are in proofs/Count.antt and proofs/Order.antt.
use Rattle.std.specs.Prelude.{◌≡◌, ℕ, ◌+◌, ◌%◌, ◌≤◌, true, eqb, leb}
use Rattle.calendar.specs.declared.Date.{Date}
use Rattle.calendar.specs.Calendar.{first_day, last_day, leap_of, exists_of, not_after, next_day, roll_code, roll_date, day_number}

pub record CalendarHolds : Type 0 where
  -- the Gregorian rule in these years: every fourth year has 29 February
  pub every_fourth : (y : ℕ) → 2000 ≤ y → y ≤ 2099 → leap_of y ≡ eqb (y % 4) 0
  -- the next day's number is one more, for every date of the calendar but the last
  pub next_is_later : (d : Date) → exists_of d ≡ true → (d ≡ last_day → ⊥) → day_number (next_day d) ≡ day_number d + 1
  -- the first and the last day are dates of the calendar
  pub first-exists : exists_of first_day ≡ true
  pub last-exists : exists_of last_day ≡ true
  -- the next day exists, and the last day stays without a refusal
  pub next-exists : (d : Date) → exists_of d ≡ true → exists_of (next_day d) ≡ true
  pub last-stays : roll_date last_day ≡ last_day
  pub last_not_refused : roll_code last_day ≡ 0
  -- dates are ordered as their day numbers are
  pub by_number : (a b : Date) → exists_of a ≡ true → exists_of b ≡ true → not_after a b ≡ leb (day_number a) (day_number b)
  -- the calendar's 36,525 days, each with a number of its own
  pub first_is_0 : day_number first_day ≡ 0
  pub last_is_36524 : day_number last_day ≡ 36524
  pub within : (d : Date) → exists_of d ≡ true → day_number d ≤ 36524
  pub one_a_day : (a b : Date) → exists_of a ≡ true → exists_of b ≡ true → day_number a ≡ day_number b → a ≡ b
