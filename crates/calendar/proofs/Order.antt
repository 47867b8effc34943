-- Every fourth year, the next day exists, and the order of dates is that of their day numbers: with proofs/Count.antt all that
-- specs/Promise.antt states.
use mathlib.Core.Path.{◌≡◌, refl, sym, ap, ◌∙◌}
use Prim.Native.Nat.{ℕ, zero, suc, ◌+◌, ◌-◌, ◌%◌, ◌≤◌, ◌<◌}
use native.Mathlib.Nat.{le_antisymm}
use native.Mathlib.Omega.{arith}
use mathlib.Core.Bool.{Bool, true, false}
use lib.Dec.{ltb, leb, eqb}
use borrow.Author.Tests.{ltb-true, ltb-false, leb-true, leb-false, eqb-true, le-leb, lt-leb, eq-eqb}
use Rattle.calendar.specs.declared.Date.{Date}
use Rattle.calendar.specs.Calendar.{date, first_day, last_day, leap_of, days_of, exists_of, not_after, next_day, roll_code, roll_date}
use Rattle.calendar.specs.Calendar.{before_month, before_year, day_number}
use Rattle.calendar.specs.Promise.{CalendarHolds}
use Rattle.calendar.proofs.Tests.{leap_400, leap_4, days_some, by_days, next_in_month, next_month, next_year, last-stays}
use Rattle.calendar.proofs.Tests.{earlier_year, later_year, earlier_month, later_month, by_day}
use Rattle.calendar.proofs.Count.{Exists, exists-facts, next_is_later, first_is_0, last_is_36524}

-- ---- every fourth year
fourth : (y : ℕ) → 2000 ≤ y → y ≤ 2099 → (t : Bool) → eqb y 2000 ≡ t → leap_of y ≡ eqb (y % 4) 0
fourth y h k true e =
    let is : y ≡ 2000 = eqb-true _ _ e in
    sym (leap_400 y (omega arith)) ∙ sym (eq-eqb (y % 4) 0 (omega arith))
fourth y h k false e = sym (leap_4 y (λ z. other (omega arith)) (λ z. other (omega arith)))
  where
    other : y ≡ 2000 → ⊥
    other is = let z : ◌≡◌ {A = Bool} true false = sym (eq-eqb _ _ is) ∙ e in let w : ◌≡◌ {A = ℕ} 0 1 = cc in omega arith

-- ---- the next day exists
there : (y m d : ℕ) → 2000 ≤ y → y ≤ 2099 → 1 ≤ m → m ≤ 12 → 1 ≤ d → d ≤ days_of y m → exists_of (date y m d) ≡ true
there y m d a b c e f g = sym (by_days (date y m d) (days_of y m) a b c e f refl) ∙ le-leb _ _ g

first-exists : exists_of first_day ≡ true
unfolding exists_of days_of
first-exists = refl

last-exists : exists_of last_day ≡ true
unfolding exists_of days_of
last-exists = refl

module _ (d : Date) (x : Exists d) where
  next_by_tests : (a b c : Bool) → ltb d.day (days_of d.year d.month) ≡ a → ltb d.month 12 ≡ b → ltb d.year 2099 ≡ c → exists_of (next_day d) ≡ true
  next_by_tests true b c f g h =
      let less : d.day < days_of d.year d.month = ltb-true _ _ f in
      ap exists_of (sym (next_in_month d less)) ∙ there _ _ _ x.from x.to x.some_month x.last_month (omega arith) (omega arith)
  next_by_tests false true c f g h =
      let less : d.month < 12 = ltb-true _ _ g in
      ap exists_of (sym (next_month d (ltb-false _ _ f) less))
      ∙ there _ _ _ x.from x.to (omega arith) (omega arith) (omega arith) (omega (arith, days_some d.year (d.month + 1)))
  next_by_tests false false true f g h =
      let less : d.year < 2099 = ltb-true _ _ h in
      ap exists_of (sym (next_year d (ltb-false _ _ f) (ltb-false _ _ g) less))
      ∙ there _ _ _ (omega (arith, x.from)) (omega arith) (omega arith) (omega arith) (omega arith) (omega (arith, days_some (d.year + 1) 1))
  next_by_tests false false false f g h = ap exists_of (sym (last-stays d (ltb-false _ _ f) (ltb-false _ _ g) (ltb-false _ _ h))) ∙ last-exists

pub next-exists : (d : Date) → exists_of d ≡ true → exists_of (next_day d) ≡ true
next-exists d e = next_by_tests d (exists-facts d e) _ _ _ refl refl refl

last_rolls : roll_date last_day ≡ last_day
unfolding roll_date next_day exists_of days_of
last_rolls = refl

last-accepted : roll_code last_day ≡ 0
unfolding roll_code exists_of days_of
last-accepted = refl

-- ---- counts of days rise
module _ (f : ℕ → ℕ) (up : (k : ℕ) → f k ≤ f (suc k)) where
  climb : (j m : ℕ) → f m ≤ f (j + m)
  climb zero m = omega (arith, ap f {x = 0 + m} {y = m} (omega arith))
  climb (suc j) m = omega (arith, climb j m, up (j + m), ap f {x = suc j + m} {y = suc (j + m)} (omega arith))

  rises : (m k : ℕ) → m ≤ k → f m ≤ f k
  rises m k h = omega (arith, climb (k - m) m, ap f {x = (k - m) + m} {y = k} (omega arith))

months_rise : (y m k : ℕ) → m ≤ k → before_month y m ≤ before_month y k
unfolding before_month
months_rise y m k h = rises (before_month y) (λ k. omega arith) m k h

years_rise : (m k : ℕ) → m ≤ k → before_year m ≤ before_year k
unfolding before_year
years_rise m k h = rises before_year (λ k. omega arith) m k h

-- a day of a month comes before the next month, and a day of a year before the next year
in_month : (d : Date) → Exists d → before_month d.year (d.month - 1) + (d.day - 1) < before_month d.year d.month
unfolding before_month
in_month d x =
    let next : before_month d.year d.month ≡ before_month d.year (d.month - 1) + days_of d.year (d.month - 1 + 1) =
    ap (before_month d.year) {x = d.month} {y = suc (d.month - 1)} (omega (arith, x.some_month)) in
    omega (arith, next, ap (days_of d.year) {x = d.month - 1 + 1} {y = d.month} (omega (arith, x.some_month)), x.last_day_lem, x.some_day)

in_year : (d : Date) → Exists d → day_number d < before_year (d.year - 2000 + 1)
unfolding day_number before_year
in_year d x =
    let next : before_year (d.year - 2000 + 1) ≡ before_year (d.year - 2000) + before_month (2000 + (d.year - 2000)) 12 =
    ap before_year {x = d.year - 2000 + 1} {y = suc (d.year - 2000)} (omega arith) in
    let same : before_month (2000 + (d.year - 2000)) 12 ≡ before_month d.year 12 =
    ap (λ (y : ℕ). before_month y 12) {x = 2000 + (d.year - 2000)} {y = d.year} (omega (arith, x.from)) in
    omega (arith, next, same, in_month d x, months_rise d.year d.month 12 x.last_month)

-- ---- the order
module _ (a b : Date) (x : Exists a) (z : Exists b) where
  year_first : a.year < b.year → day_number a < day_number b
  unfolding day_number
  year_first h = omega (arith, in_year a x, years_rise (a.year - 2000 + 1) (b.year - 2000) (omega (arith, x.from)))

  month_first : a.year ≡ b.year → a.month < b.month → day_number a < day_number b
  unfolding day_number
  month_first e h =
      omega (
        arith,
        ap (λ (y : ℕ). before_year (y - 2000)) e,
        in_month a x,
        months_rise a.year a.month (b.month - 1) (omega arith),
        ap (λ (y : ℕ). before_month y (b.month - 1)) e,
      )

  same_month : a.year ≡ b.year → a.month ≡ b.month → day_number a + b.day ≡ day_number b + a.day
  unfolding day_number
  same_month e f =
      omega (
        arith,
        ap (λ (y : ℕ). before_year (y - 2000)) e,
        ap (λ (y : ℕ). before_month y (a.month - 1)) e,
        ap (λ (m : ℕ). before_month b.year (m - 1)) f,
        x.some_day,
        z.some_day,
      )

module _ (a b : Date) (x : Exists a) (z : Exists b) where
  by_last : a.year ≡ b.year → a.month ≡ b.month → (t : Bool) → leb a.day b.day ≡ t → leb a.day b.day ≡ leb (day_number a) (day_number b)
  by_last e f true g =
      let h : a.day ≤ b.day = leb-true _ _ g in
      g ∙ sym (le-leb (day_number a) (day_number b) (omega (arith, same_month a b x z e f)))
  by_last e f false g =
      let h : b.day < a.day = leb-false _ _ g in
      g ∙ sym (lt-leb (day_number a) (day_number b) (omega (arith, same_month a b x z e f)))

  by_tests : (p q r s : Bool) → ltb a.year b.year ≡ p → ltb b.year a.year ≡ q → ltb a.month b.month ≡ r → ltb b.month a.month ≡ s
      → not_after a b ≡ leb (day_number a) (day_number b)
  by_tests true q r s e f g h =
      let l : a.year < b.year = ltb-true _ _ e in
      sym (earlier_year a b l) ∙ sym (le-leb (day_number a) (day_number b) (omega (arith, year_first a b x z l)))
  by_tests false true r s e f g h =
      let l : b.year < a.year = ltb-true _ _ f in
      sym (later_year a b l) ∙ sym (lt-leb _ _ (year_first b a z x l))
  by_tests false false true s e f g h =
      let l : a.month < b.month = ltb-true _ _ g in
      sym (earlier_month a b (ltb-false _ _ e) (ltb-false _ _ f) l)
      ∙ sym (le-leb (day_number a) (day_number b) (omega (arith, month_first a b x z (le_antisymm (ltb-false _ _ f) (ltb-false _ _ e)) l)))
  by_tests false false false true e f g h =
      let l : b.month < a.month = ltb-true _ _ h in
      sym (later_month a b (ltb-false _ _ e) (ltb-false _ _ f) l) ∙ sym (lt-leb _ _ (month_first b a z x (le_antisymm (ltb-false _ _ e) (ltb-false _ _ f)) l))
  by_tests false false false false e f g h =
      sym (by_day a b (ltb-false _ _ e) (ltb-false _ _ f) (ltb-false _ _ g) (ltb-false _ _ h))
      ∙ by_last (le_antisymm (ltb-false _ _ f) (ltb-false _ _ e)) (le_antisymm (ltb-false _ _ h) (ltb-false _ _ g)) _ refl

pub by_number : (a b : Date) → exists_of a ≡ true → exists_of b ≡ true → not_after a b ≡ leb (day_number a) (day_number b)
by_number a b e f = by_tests a b (exists-facts a e) (exists-facts b f) _ _ _ _ refl refl refl refl

-- two dates with one number are the same
not-below : (m n : ℕ) → (m < n → ⊥) → n ≤ m
not-below m n h = by_test_lem _ refl
  where
    by_test_lem : (t : Bool) → ltb m n ≡ t → n ≤ m
    by_test_lem true e = absurd (h (ltb-true _ _ e))
    by_test_lem false e = ltb-false _ _ e

module _ (a b : Date) (x : Exists a) (z : Exists b) (e : day_number a ≡ day_number b) where
  same_year : a.year ≡ b.year
  same_year = le_antisymm (not-below _ _ (λ l. omega (arith, year_first b a z x l))) (not-below _ _ (λ l. omega (arith, year_first a b x z l)))

  of_one_month : a.month ≡ b.month
  of_one_month =
      le_antisymm
      (not-below _ _ (λ l. omega (arith, month_first b a z x (sym same_year) l)))
      (not-below _ _ (λ l. omega (arith, month_first a b x z same_year l)))

  same-date : a ≡ b
  same-date =
      let d : a.day ≡ b.day = omega (arith, same_month a b x z same_year of_one_month) in
      ap (λ (y : ℕ). date y a.month a.day) same_year ∙ ap (λ (m : ℕ). date b.year m a.day) of_one_month ∙ ap (date b.year b.month) d

pub one_a_day : (a b : Date) → exists_of a ≡ true → exists_of b ≡ true → day_number a ≡ day_number b → a ≡ b
one_a_day a b e f h = same-date a b (exists-facts a e) (exists-facts b f) h

-- no date lies after the last
hundred_years : before_year 100 ≡ 36525
unfolding before_year before_month days_of leap_of
hundred_years = refl

pub within : (d : Date) → exists_of d ≡ true → day_number d ≤ 36524
within d e = let x : Exists d = exists-facts d e in omega (arith, in_year d x, years_rise (d.year - 2000 + 1) 100 (omega (arith, x.to)), hundred_years)

pub calendar_holds : CalendarHolds
calendar_holds =
    record {
      every_fourth = λ y h k. fourth y h k (eqb y 2000) refl;
      next_is_later = next_is_later;
      first-exists = first-exists;
      last-exists = last-exists;
      next-exists = next-exists;
      last-stays = last_rolls;
      last_not_refused = last-accepted;
      by_number = by_number;
      first_is_0 = first_is_0;
      last_is_36524 = last_is_36524;
      within = within;
      one_a_day = one_a_day;
    }
