-- The day after a date is one day later: over the day number, the count of days since the first day, a roll adds one to every date of
-- the calendar but the last. By what the calendar says where a month or a year ends, and by no table.
use mathlib.Core.Path.{◌≡◌, refl, sym, ap, ◌∙◌}
use Prim.Native.Nat.{ℕ, zero, suc, ◌+◌, ◌-◌, ◌≤◌}
use native.Mathlib.Nat.{le_antisymm}
use native.Mathlib.Numerals.{add-one}
use native.Mathlib.Omega.{arith}
use mathlib.Core.Bool.{Bool, true, false, ◌&&◌}
use lib.Dec.{ltb, leb}
use borrow.Author.Tests.{ltb-true, ltb-false, leb-true}
use Rattle.calendar.specs.declared.Date.{Date}
use Rattle.calendar.specs.Calendar.{date, first_day, last_day, leap_of, days_of, exists_of, next_day, before_month, before_year, day_number}
use Rattle.calendar.proofs.Tests.{next_in_month, next_month, next_year}

-- ---- a date that exists, as facts on its numbers
pub record Exists (d : Date) : Type 0 where
  pub from : 2000 ≤ d.year
  pub to : d.year ≤ 2099
  pub some_month : 1 ≤ d.month
  pub some_day : 1 ≤ d.day
  pub last_month : d.month ≤ 12
  pub last_day_lem : d.day ≤ days_of d.year d.month

all_six : (a b c d e f : Bool) → (a && (b && (c && (d && (e && f))))) ≡ true → (a ≡ true) × (b ≡ true) × (c ≡ true) × (d ≡ true) × (e ≡ true) × (f ≡ true)
all_six true true true true true f h = (refl, refl, refl, refl, refl, h)
all_six true true true true false f h = (refl, refl, refl, refl, h, cc)
all_six true true true false e f h = (refl, refl, refl, h, cc, cc)
all_six true true false d e f h = (refl, refl, h, cc, cc, cc)
all_six true false c d e f h = (refl, h, cc, cc, cc, cc)
all_six false b c d e f h = (h, cc, cc, cc, cc, cc)

pub exists-facts : (d : Date) → exists_of d ≡ true → Exists d
unfolding exists_of
exists-facts d e = facts (all_six _ _ _ _ _ _ e)
  where
    facts : (leb 2000 d.year ≡ true) × (leb d.year 2099 ≡ true) × (leb 1 d.month ≡ true) × (leb d.month 12 ≡ true) × (leb 1 d.day ≡ true)
        × (leb d.day (days_of d.year d.month) ≡ true) → Exists d
    facts p =
        record {
          from = leb-true _ _ p.0;
          to = leb-true _ _ p.1;
          some_month = leb-true _ _ p.2;
          last_month = leb-true _ _ p.3;
          some_day = leb-true _ _ p.4;
          last_day_lem = leb-true _ _ p.5;
        }

-- ---- one day later, within a month, at a month's end and at a year's end
in_month : (y m d : ℕ) → 1 ≤ d → day_number (date y m (d + 1)) ≡ day_number (date y m d) + 1
unfolding day_number
in_month y m d h = omega arith

month_end : (y m d : ℕ) → 1 ≤ m → 1 ≤ d → d ≡ days_of y m → day_number (date y (m + 1) 1) ≡ day_number (date y m d) + 1
unfolding day_number before_month
month_end y zero d h k e = absurd (omega arith)
month_end y (suc m) d h k e =
    let after : before_month y (suc m + 1 - 1) ≡ before_month y m + days_of y (m + 1) = ap (before_month y) {x = suc m + 1 - 1} {y = suc m} (omega arith) in
    let here : before_month y (suc m - 1) ≡ before_month y m = ap (before_month y) {x = suc m - 1} {y = m} (omega arith) in
    omega (arith, after, here, e, ap (days_of y) (add-one m))

year_end : (y : ℕ) → 2000 ≤ y → day_number (date (y + 1) 1 1) ≡ day_number (date y 12 31) + 1
unfolding day_number before_month before_year days_of
year_end y h =
    let after : before_year (y + 1 - 2000) ≡ before_year (y - 2000) + before_month (2000 + (y - 2000)) 12 =
    ap before_year {x = y + 1 - 2000} {y = suc (y - 2000)} (omega arith) in
    let same : before_month (2000 + (y - 2000)) 12 ≡ before_month y 12 = ap (λ (z : ℕ). before_month z 12) {x = 2000 + (y - 2000)} {y = y} (omega arith) in
    omega (arith, after, same)

-- ---- every date of the calendar but the last
module _ (d : Date) (x : Exists d) (other : d ≡ last_day → ⊥) where
  -- the last day of a year
  is_31 : days_of d.year d.month ≤ d.day → 12 ≤ d.month → d ≡ date d.year 12 31
  unfolding days_of
  is_31 h k = ap (λ (m : ℕ). date d.year m d.day) december ∙ ap (date d.year 12) (le_antisymm x.last_day_lem h ∙ ap (days_of d.year) december)
    where
      december : d.month ≡ 12
      december = le_antisymm x.last_month k

  by_tests : (a b c : Bool) → ltb d.day (days_of d.year d.month) ≡ a → ltb d.month 12 ≡ b → ltb d.year 2099 ≡ c
      → day_number (next_day d) ≡ day_number d + 1
  by_tests true b c e f g = ap day_number (sym (next_in_month d (ltb-true _ _ e))) ∙ in_month _ _ _ x.some_day
  by_tests false true c e f g =
      ap day_number (sym (next_month d (ltb-false _ _ e) (ltb-true _ _ f)))
      ∙ month_end _ _ _ x.some_month x.some_day (le_antisymm x.last_day_lem (ltb-false _ _ e))
  by_tests false false true e f g =
      ap day_number (sym (next_year d (ltb-false _ _ e) (ltb-false _ _ f) (ltb-true _ _ g)))
      ∙ year_end _ x.from ∙ ap (λ (z : Date). day_number z + 1) (sym (is_31 (ltb-false _ _ e) (ltb-false _ _ f)))
  by_tests false false false e f g =
      absurd (other (is_31 (ltb-false _ _ e) (ltb-false _ _ f) ∙ ap (λ (y : ℕ). date y 12 31) (le_antisymm x.to (ltb-false _ _ g))))

pub next_is_later : (d : Date) → exists_of d ≡ true → (d ≡ last_day → ⊥) → day_number (next_day d) ≡ day_number d + 1
next_is_later d e other = by_tests d (exists-facts d e) other _ _ _ refl refl refl

-- the calendar's 36,525 days
pub first_is_0 : day_number first_day ≡ 0
unfolding day_number before_month before_year days_of
first_is_0 = refl

pub last_is_36524 : day_number last_day ≡ 36524
unfolding day_number before_month before_year days_of leap_of
last_is_36524 = refl
