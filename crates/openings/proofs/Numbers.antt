-- Windows and minutes as numbers: the order of minutes is that of their minute numbers, and a minute lies in a window where its day
-- number and its minute lie in the window's spans.
use mathlib.Core.Path.{◌≡◌, refl, sym, ap, ◌∙◌}
use Prim.Native.Nat.{◌≤◌, ◌<◌}
use native.Mathlib.Omega.{arith}
use mathlib.Core.Bool.{Bool, true, false, ◌&&◌, ◌||◌}
use lib.Dec.{ltb}
use borrow.Author.Tests.{ltb-true, ltb-false, leb-true, leb-false, lt-ltb, le-ltb, le-leb}
use Rattle.calendar.specs.declared.Date.{Date}
use Rattle.calendar.specs.Calendar.{exists_of, not_after, day_number}
use Rattle.calendar.proofs.Order.{by_number, one_a_day}
use Rattle.openings.specs.declared.Window.{Window}
use Rattle.openings.specs.declared.Moment.{Moment}
use Rattle.openings.specs.Windows.{moment, minute_exists, window_exists, before, minute_number, lies_in}
use Rattle.openings.proofs.Tests.{later_day, earlier_day, same_day}

-- ---- both, and one of two
pub both : (p q : Bool) → (p && q) ≡ true → (p ≡ true) × (q ≡ true)
both true q h = (refl, h)
both false q h = (h, cc)

pub either : {R : Type 0} (p q : Bool) → (p || q) ≡ true → (p ≡ true → R) → (q ≡ true → R) → R
either true q h f g = f refl
either false q h f g = g h

pub or_left : (p q : Bool) → p ≡ true → (p || q) ≡ true
or_left true q h = refl
or_left false q h = cc

pub or_right : (p q : Bool) → q ≡ true → (p || q) ≡ true
or_right true q h = refl
or_right false q h = h

-- ---- dates
pub day_le : (a b : Date) → exists_of a ≡ true → exists_of b ≡ true → not_after a b ≡ true → day_number a ≤ day_number b
day_le a b e f h = leb-true _ _ (sym (by_number a b e f) ∙ h)

pub day_gt : (a b : Date) → exists_of a ≡ true → exists_of b ≡ true → not_after a b ≡ false → day_number b < day_number a
day_gt a b e f h = leb-false _ _ (sym (by_number a b e f) ∙ h)

pub le_day : (a b : Date) → exists_of a ≡ true → exists_of b ≡ true → day_number a ≤ day_number b → not_after a b ≡ true
le_day a b e f h = by_number a b e f ∙ le-leb _ _ h

-- ---- minutes
pub record Minute (m : Moment) : Type 0 where
  pub day : exists_of m.date ≡ true
  pub small : m.minute < 1440

pub minute_facts : (m : Moment) → minute_exists m ≡ true → Minute m
unfolding minute_exists
minute_facts m h = let p = both _ _ h in record { day = p.0; small = ltb-true _ _ p.1 }

pub minute_there : (m : Moment) → exists_of m.date ≡ true → m.minute < 1440 → minute_exists m ≡ true
unfolding minute_exists
minute_there m e h = simp (e, lt-ltb _ _ h)

module _ (a b : Moment) (x : Minute a) (z : Minute b) where
  by_days : (s t : Bool) → not_after a.date b.date ≡ s → not_after b.date a.date ≡ t → before a b ≡ ltb (minute_number a) (minute_number b)
  unfolding minute_number
  by_days false t e f =
      let l : day_number b.date < day_number a.date = day_gt _ _ x.day z.day e in
      sym (later_day a b e) ∙ sym (le-ltb (minute_number a) (minute_number b) (omega (arith, z.small)))
  by_days true false e f =
      let l : day_number a.date < day_number b.date = day_gt _ _ z.day x.day f in
      sym (earlier_day a b e f) ∙ sym (lt-ltb (minute_number a) (minute_number b) (omega (arith, x.small)))
  by_days true true e f =
      let l : day_number a.date ≤ day_number b.date = day_le _ _ x.day z.day e in
      let g : day_number b.date ≤ day_number a.date = day_le _ _ z.day x.day f in
      sym (same_day a b e f) ∙ by_minute l g _ refl
    where
      by_minute : day_number a.date ≤ day_number b.date → day_number b.date ≤ day_number a.date → (t : Bool)
          → ltb a.minute b.minute ≡ t → ltb a.minute b.minute ≡ ltb (minute_number a) (minute_number b)
      by_minute l g true e = let h : a.minute < b.minute = ltb-true _ _ e in e ∙ sym (lt-ltb (minute_number a) (minute_number b) (omega arith))
      by_minute l g false e = let h : b.minute ≤ a.minute = ltb-false _ _ e in e ∙ sym (le-ltb (minute_number a) (minute_number b) (omega arith))

pub before-number : (a b : Moment) → Minute a → Minute b → before a b ≡ ltb (minute_number a) (minute_number b)
before-number a b x z = by_days a b x z _ _ refl refl

-- two minutes with one number are the same
pub one-moment : (a b : Moment) → Minute a → Minute b → minute_number a ≡ minute_number b → a ≡ b
unfolding minute_number
one-moment a b x z e =
    let day : day_number a.date ≡ day_number b.date = omega (arith, x.small, z.small) in
    ap (λ (d : Date). moment d a.minute) (one_a_day _ _ x.day z.day day) ∙ ap (moment b.date) (omega arith)

-- ---- windows
pub record Sound (w : Window) : Type 0 where
  pub first-there : exists_of w.first ≡ true
  pub last-there : exists_of w.last ≡ true
  pub dates : day_number w.first ≤ day_number w.last
  pub minutes : w.start < w.end
  pub of_a_day : w.end ≤ 1440

pub sound-facts : (w : Window) → window_exists w ≡ true → Sound w
unfolding window_exists
sound-facts w h =
    let p = both _ _ h in
    let q = both _ _ p.1 in
    let r = both _ _ q.1 in
    let s = both _ _ r.1 in
    record { first-there = p.0; last-there = q.0; dates = day_le _ _ p.0 q.0 r.0; minutes = ltb-true _ _ s.0; of_a_day = leb-true _ _ s.1 }

-- a minute in a window
pub record Lies (w : Window) (k : Moment) : Type 0 where
  pub from : day_number w.first ≤ day_number k.date
  pub to : day_number k.date ≤ day_number w.last
  pub start : w.start ≤ k.minute
  pub end : k.minute < w.end

pub lies-facts : (w : Window) (k : Moment) → Sound w → exists_of k.date ≡ true → lies_in w k ≡ true → Lies w k
unfolding lies_in
lies-facts w k x e h =
    let p = both _ _ h in
    let d = both _ _ p.0 in
    let m = both _ _ p.1 in
    record { from = day_le _ _ x.first-there e d.0; to = day_le _ _ e x.last-there d.1; start = leb-true _ _ m.0; end = ltb-true _ _ m.1 }

pub lies-there : (w : Window) (k : Moment) → Sound w → exists_of k.date ≡ true → Lies w k → lies_in w k ≡ true
unfolding lies_in
lies-there w k x e l = simp (le_day _ _ x.first-there e l.from, le_day _ _ e x.last-there l.to, le-leb _ _ l.start, lt-ltb _ _ l.end)
