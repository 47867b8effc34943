-- No number is cut, and a minute reads back from its number.
use mathlib.Core.Path.{◌≡◌, refl, sym, ap, ◌∙◌}
use Prim.Native.Nat.{ℕ, ◌/◌, ◌%◌, ◌≤◌, ◌<◌, min}
use native.Mathlib.Omega.{arith}
use mathlib.Core.Bool.{Bool, true, false, cond}
use mathlib.Core.List.{List}
use lib.ListN.{length, get_or}
use lib.Dec.{ltb, leb, eqb}
use borrow.Author.Tests.{ltb-true, leb-true}
use Rattle.message.proofs.QuestionLaws.{and_both}
use Rattle.calendar.specs.declared.Date.{Date}
use Rattle.calendar.specs.Calendar.{date, exists_of, not_after, roll_code, roll_date}
use Rattle.calendar.proofs.Count.{exists-facts}
use Rattle.calendar.proofs.Tests.{days_fit}
use Rattle.calendar.proofs.Order.{calendar_holds}
use Rattle.openings.specs.declared.Moment.{Moment}
use Rattle.openings.specs.declared.Opening.{Opening}
use Rattle.openings.specs.declared.Opening.TheVariants.{At, None, Refused}
use Rattle.openings.specs.Windows.{moment, minute_exists, window_exists}
use Rattle.openings.specs.Find.{in_order, find_of, opening_number}
use Rattle.openings.proofs.Earliest.{find_holds}
use Rattle.lent_answer.specs.Number.{AT, kind_unit}
use Rattle.lent_lens.specs.Lens.{date_of, moment_of, window_of, windows_of, at_number, opening_code, find_number, roll_number}
use Rattle.lent_lens.specs.Promise.{window_given, minute_in, LensHolds}

uncut : (n most : ℕ) → min n most < most → min n most ≡ n
uncut n most h = omega arith

date-kept : (y m d : ℕ) → exists_of (date_of y m d) ≡ true → date_of y m d ≡ date y m d
date-kept y m d h =
    let e = exists-facts (date_of y m d) h in
    let day : min d 255 ≤ 31 = omega (arith, e.last_day_lem, days_fit (min y 65535) (min m 255)) in
    λ i. date (uncut y 65535 (omega (arith, e.to)) i) (uncut m 255 (omega (arith, e.last_month)) i) (uncut d 255 (omega arith) i)

-- a minute's date exists, and it is one of the day's
parts : (m : Moment) → minute_exists m ≡ true → (exists_of m.date ≡ true) × (m.minute < 1440)
unfolding minute_exists
parts m h =
    let p = and_both (exists_of m.date) (ltb m.minute 1440) h in
    (p.0, ltb-true m.minute 1440 p.1)

minute_kept : (y m d k : ℕ) → minute_exists (moment_of y m d k) ≡ true → moment_of y m d k ≡ moment (date y m d) k
minute_kept y m d k h =
    let p = parts (moment_of y m d k) h in
    λ i. moment (date-kept y m d p.0 i) (uncut k 65535 (omega (arith, p.1)) i)

window-kept : (s : List ℕ) → window_exists (window_of s) ≡ true → window_of s ≡ window_given s
unfolding window_exists
window-kept s h =
    let w = window_of s in
    let p = and_both (exists_of w.first) _ h in
    let q = and_both (exists_of w.last) _ p.1 in
    let r = and_both (not_after w.first w.last) _ q.1 in
    let t = and_both (ltb w.start w.end) (leb w.end 1440) r.1 in
    let from : w.start < w.end = ltb-true w.start w.end t.0 in
    let to : w.end ≤ 1440 = leb-true w.end 1440 t.1 in
    λ i. record {
      first = date-kept (get_or s 0 0) (get_or s 1 0) (get_or s 2 0) p.0 i;
      last = date-kept (get_or s 3 0) (get_or s 4 0) (get_or s 5 0) q.0 i;
      start = uncut (get_or s 6 0) 65535 (omega arith) i;
      end = uncut (get_or s 7 0) 65535 (omega arith) i;
    }

-- the four numbers out of their sum
unpack : (y m d k : ℕ) → y ≤ 2099 → m ≤ 12 → d ≤ 31 → k < 1440 → minute_in (at_number (moment (date y m d) k)) ≡ moment (date y m d) k
unpack y m d k hy hm hd hk =
    let n : ℕ = at_number (moment (date y m d) k) in
    let year : n / 1048576 % 4096 ≡ y = omega arith in
    let month : n / 65536 % 16 ≡ m = omega arith in
    let day : n / 2048 % 32 ≡ d = omega arith in
    let minute : n % 2048 ≡ k = omega arith in
    λ i. moment (date (year i) (month i) (day i)) (minute i)

reads_back : (m : Moment) → minute_exists m ≡ true → minute_in (at_number m) ≡ m
reads_back m h =
    let p = parts m h in
    let d : Date = m.date in
    let e = exists-facts d p.0 in
    let day : d.day ≤ 31 = omega (arith, e.last_day_lem, days_fit d.year d.month) in
    unpack d.year d.month d.day m.minute e.to e.last_month day p.1

-- the kind of a minute's number
kind_of_lem : (y m d k : ℕ) → y ≤ 2099 → m ≤ 12 → d ≤ 31 → k < 1440 → at_number (moment (date y m d) k) / kind_unit ≡ AT
kind_of_lem y m d k hy hm hd hk = omega arith

kind_back : (m : Moment) → minute_exists m ≡ true → at_number m / kind_unit ≡ AT
kind_back m h =
    let p = parts m h in
    let d : Date = m.date in
    let e = exists-facts d p.0 in
    let day : d.day ≤ 31 = omega (arith, e.last_day_lem, days_fit d.year d.month) in
    kind_of_lem d.year d.month d.day m.minute e.to e.last_month day p.1

-- no small number is of that kind
not_at : (n : ℕ) → n ≤ 15 → n / kind_unit ≡ AT → ⊥
not_at n l h = omega (arith, h)

-- a refusal of a search is 15
small : (t : Bool) (n : ℕ) → n ≡ cond t 0 15 → n ≤ 15
small true n h = omega (arith, h)
small false n h = omega (arith, h)

either : (P : ℕ → Type 0) (t : Bool) (a b : ℕ) → P a → P b → P (cond t a b)
either P true a b p q = p
either P false a b p q = q

module _ (ws : List ℕ) (y m d k : ℕ) where
  abbrev O : Opening
  O = find_of (windows_of ws) (moment_of y m d k)

  abbrev Back : ℕ → Type 0
  Back n = n / kind_unit ≡ AT → (f : Moment) × (O ≡ At f) × (minute_in n ≡ f)

  opening_back : (o : Opening) → O ≡ o → Back (opening_code o)
  opening_back (At f) p h = (f, p, reads_back f ((find_holds (windows_of ws) (moment_of y m d k)).found f p).exists)
  opening_back None p h = absurd (omega (arith, h))
  opening_back (Refused n) p h =
      let number : n ≡ cond (in_order (windows_of ws) (moment_of y m d k)) 0 15 =
      sym (ap opening_number p) ∙ (find_holds (windows_of ws) (moment_of y m d k)).number in
      absurd (not_at n (small (in_order (windows_of ws) (moment_of y m d k)) n number) h)

  found_back : Back (find_number ws y m d k)
  unfolding find_number
  found_back = either Back (eqb (length ws % 8) 0) (opening_code O) 15 (opening_back O refl) (λ h. absurd (not_at 15 (omega arith) h))

-- a date that was rolled exists, and so does the next day
rolled_back : (y m d : ℕ) → roll_number y m d / kind_unit ≡ AT
    → (exists_of (date_of y m d) ≡ true) × (minute_in (roll_number y m d) ≡ moment (roll_date (date_of y m d)) 0)
unfolding roll_number roll_code roll_date minute_exists
rolled_back y m d h = go (exists_of (date_of y m d)) refl
  where
    go : (t : Bool) → exists_of (date_of y m d) ≡ t
        → (exists_of (date_of y m d) ≡ true) × (minute_in (roll_number y m d) ≡ moment (roll_date (date_of y m d)) 0)
    go true t =
        let next : exists_of (roll_date (date_of y m d)) ≡ true = rw t (calendar_holds.next-exists (date_of y m d) t) in
        let exists : minute_exists (moment (roll_date (date_of y m d)) 0) ≡ true = rw next in
        let answer : roll_number y m d ≡ at_number (moment (roll_date (date_of y m d)) 0) = rw t in
        (t, ap minute_in answer ∙ reads_back (moment (roll_date (date_of y m d)) 0) exists)
    go false t =
        let answer : roll_number y m d ≡ 15 = rw t in
        absurd (not_at 15 (omega arith) (ap (λ (n : ℕ). n / kind_unit) (sym answer) ∙ h))

pub lens_holds : LensHolds
lens_holds = record {
  date-kept = date-kept;
  minute_kept = minute_kept;
  window-kept = window-kept;
  reads_back = reads_back;
  kind_back = kind_back;
  found_back = found_back;
  rolled_back = rolled_back;
}
