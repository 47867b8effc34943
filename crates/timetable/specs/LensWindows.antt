-- All that is promised of document 02's P10, written out in one place: a theorem of `calendar`, `openings` or this crate that is weakened,
-- made private or taken away no longer fits. The one term that proves it is proofs/LensWindowsKept.antt; the contracts of the calls are
-- promises of their own.
use Rattle.std.specs.Prelude.{◌≡◌, true, cond, List, [], ◌∷◌, ℕ, ◌+◌, ◌%◌, ◌≤◌, ◌<◌, eqb, leb, length}
use Rattle.calendar.specs.declared.Date.{Date}
use Rattle.calendar.specs.Calendar.{first_day, last_day, leap_of, exists_of, not_after, next_day, roll_code, roll_date, day_number}
use Rattle.openings.specs.declared.Window.{Window}
use Rattle.openings.specs.declared.Moment.{Moment}
use Rattle.openings.specs.declared.Opening.TheVariants.{At, None}
use Rattle.openings.specs.Windows.{minute_exists, minute_number, is_open}
use Rattle.openings.specs.Find.{in_order, find_of, opening_number, opening_values}
use Rattle.entries.specs.Line.{Malformed}
use Rattle.entries.specs.Line.{line_of}
use Rattle.timetable.specs.Run.{start, windows_of, all_print, joined}

pub record DatesKept : Type 0 where
  -- In the years 2000 to 2099 every fourth has 29 February.
  pub every_fourth : (y : ℕ) → 2000 ≤ y → y ≤ 2099 → leap_of y ≡ eqb (y % 4) 0
  -- The dates have the numbers 0 to 36,524, no two the same, in the order of the dates.
  pub first-exists : exists_of first_day ≡ true
  pub last-exists : exists_of last_day ≡ true
  pub first_is_0 : day_number first_day ≡ 0
  pub last_is_36524 : day_number last_day ≡ 36524
  pub within : (d : Date) → exists_of d ≡ true → day_number d ≤ 36524
  pub one_a_day : (a b : Date) → exists_of a ≡ true → exists_of b ≡ true → day_number a ≡ day_number b → a ≡ b
  pub by_number : (a b : Date) → exists_of a ≡ true → exists_of b ≡ true → not_after a b ≡ leb (day_number a) (day_number b)
  -- A roll gives the date whose number is one more; the last day stays, and is not refused.
  pub next-exists : (d : Date) → exists_of d ≡ true → exists_of (next_day d) ≡ true
  pub next_is_later : (d : Date) → exists_of d ≡ true → (d ≡ last_day → ⊥) → day_number (next_day d) ≡ day_number d + 1
  pub last-stays : roll_date last_day ≡ last_day
  pub last_not_refused : roll_code last_day ≡ 0

-- "the earliest minute, not before a given one, that lies in a window"
pub record IsEarliest (ws : List Window) (m f : Moment) : Type 0 where
  pub exists : minute_exists f ≡ true
  pub lies : is_open ws f ≡ true
  pub not-before : minute_number m ≤ minute_number f
  pub first : (k : Moment) → minute_exists k ≡ true → is_open ws k ≡ true → minute_number m ≤ minute_number k → minute_number f ≤ minute_number k

-- "there is none up to the end of 2099"
abbrev pub NoMinute : List Window → Moment → Type 0
NoMinute ws m = (k : Moment) → minute_exists k ≡ true → minute_number m ≤ minute_number k → is_open ws k ≡ true → ⊥

pub record SearchKept (ws : List Window) (m : Moment) : Type 0 where
  -- A question in order is answered by the earliest minute, or by none where there is none; any other is refused as 15.
  pub found : (f : Moment) → find_of ws m ≡ At f → IsEarliest ws m f
  pub found-only : (f : Moment) → in_order ws m ≡ true → IsEarliest ws m f → find_of ws m ≡ At f
  pub none : find_of ws m ≡ None → NoMinute ws m
  pub none_only : in_order ws m ≡ true → NoMinute ws m → find_of ws m ≡ None
  pub number : opening_number (find_of ws m) ≡ cond (in_order ws m) 0 15
  -- The values of the answer are those of the minute; there are none beside none and beside a refusal.
  pub values : (f : Moment) → in_order ws m ≡ true → IsEarliest ws m f
      → opening_values (find_of ws m) ≡ f.date.year ∷ f.date.month ∷ f.date.day ∷ f.minute ∷ []
  pub no_values : (in_order ws m ≡ true → NoMinute ws m) → opening_values (find_of ws m) ≡ []

pub record LensWindows : Type 0 where
  pub dates : DatesKept
  pub search : (ws : List Window) (m : Moment) → SearchKept ws m
  -- The program prints the same however its input is cut, and its limit of 40 bytes loses no line.
  pub in_pieces : (pieces : List (List ℕ)) → all_print start pieces ≡ windows_of (joined pieces)
  pub long-lines : (line : List ℕ) → 40 < length line → line_of line ≡ Malformed
