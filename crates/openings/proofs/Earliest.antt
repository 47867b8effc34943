-- The minute that `find_of` gives is the earliest: of one window, of two answers, of the whole list.
use mathlib.Core.Path.{◌≡◌, refl, sym, ap, ◌∙◌, subst}
use Prim.Native.Nat.{ℕ, ◌+◌, ◌≤◌, ◌<◌, max}
use native.Mathlib.Nat.{le_antisymm}
use native.Mathlib.Omega.{arith}
use mathlib.Core.Bool.{Bool, true, false, cond, ◌&&◌, ◌||◌}
use mathlib.Core.List.{List, [], ◌∷◌}
use lib.Dec.{leb}
use lib.ListN.{length}
use borrow.Author.Tests.{ltb-true, ltb-false}
use Rattle.calendar.specs.declared.Date.{Date}
use Rattle.calendar.specs.Calendar.{exists_of, not_after, next_day, roll_date, day_number}
use Rattle.calendar.proofs.Count.{next_is_later, last_is_36524}
use Rattle.calendar.proofs.Order.{next-exists, within}
use Rattle.openings.specs.declared.Window.{Window}
use Rattle.openings.specs.declared.Moment.{Moment}
use Rattle.openings.specs.declared.Opening.{Opening}
use Rattle.openings.specs.declared.Opening.TheVariants.{At, None, Refused}
use Rattle.openings.specs.Windows.{moment, minute_exists, all_exist, before, minute_number, lies_in, is_open}
use Rattle.openings.specs.Find.{lasts_on, candidate_of, earlier_of, earliest_of, in_order, find_of, opening_number, opening_values}
use Rattle.openings.specs.Promise.{Earliest, NoneLeft, FindHolds}
use Rattle.openings.proofs.Tests.{not-begun, today, over, tomorrow, dates-over, by_minute}
use Rattle.openings.proofs.Numbers.{both, either, or_left, or_right, day_le, day_gt, le_day}
use Rattle.openings.proofs.Numbers.{Minute, minute_facts, minute_there, before-number, one-moment, Sound, sound-facts, Lies, lies-facts, lies-there}

-- what an answer is among the minutes that `lies` tells: the earliest, not before m, or that there is none
pub record First (lies : Moment → Bool) (m f : Moment) : Type 0 where
  pub exists : minute_exists f ≡ true
  pub lies-there : lies f ≡ true
  pub not-before : minute_number m ≤ minute_number f
  pub first : (k : Moment) → minute_exists k ≡ true → lies k ≡ true → minute_number m ≤ minute_number k → minute_number f ≤ minute_number k

abbrev Best : (Moment → Bool) → Moment → Opening → Type 0
Best lies m (At f) = First lies m f
Best lies m None = (k : Moment) → minute_exists k ≡ true → lies k ≡ true → minute_number m ≤ minute_number k → ⊥
Best lies m (Refused n) = ⊥

-- ---- one window
module _ (w : Window) (m : Moment) (x : Sound w) (y : Minute m) where
  -- the window's dates have not come yet
  first_day_lem : not_after w.first m.date ≡ false → First (lies_in w) m (moment w.first w.start)
  unfolding minute_number
  first_day_lem e =
      let l : day_number m.date < day_number w.first = day_gt _ _ x.first-there y.day e in
      record {
        exists = minute_there _ x.first-there (omega (arith, x.minutes, x.of_a_day));
        lies-there = lies-there w _ x x.first-there (record { from = omega arith; to = x.dates; start = omega arith; end = x.minutes });
        not-before = omega (arith, y.small);
        first = λ k ek lk h. let z : Lies w k = lies-facts w k x (minute_facts k ek).day lk in omega (arith, z.from, z.start);
      }

  module _ (begun : day_number w.first ≤ day_number m.date) where
    -- one of this day
    this_day : day_number m.date ≤ day_number w.last → m.minute < w.end → First (lies_in w) m (moment m.date (max m.minute w.start))
    unfolding minute_number
    this_day l h =
        record {
          exists = minute_there _ y.day (omega (arith, y.small, x.minutes, x.of_a_day));
          lies-there = lies-there w _ x y.day (record { from = begun; to = l; start = omega arith; end = omega (arith, x.minutes) });
          not-before = omega arith;
          first = λ k ek lk g.
              let z : Lies w k = lies-facts w k x (minute_facts k ek).day lk in
              omega (arith, z.start, z.end, (minute_facts k ek).small, x.minutes, x.of_a_day, y.small);
        }

    -- none: this day is the window's last or later, and its minutes of this day are over
    no_day : day_number w.last ≤ day_number m.date → (day_number m.date ≤ day_number w.last → w.end ≤ m.minute) → Best (lies_in w) m None
    unfolding minute_number
    no_day l past k ek lk h =
        let z : Lies w k = lies-facts w k x (minute_facts k ek).day lk in
        let same : day_number m.date ≤ day_number w.last = omega (arith, z.to, (minute_facts k ek).small) in
        omega (arith, past same, z.to, z.end)

    -- the next day's
    next_day_lem : day_number m.date < day_number w.last → w.end ≤ m.minute → First (lies_in w) m (moment (next_day m.date) w.start)
    unfolding minute_number
    next_day_lem l past =
        let one : day_number (next_day m.date) ≡ day_number m.date + 1 =
        next_is_later m.date y.day (λ e. omega (arith, ap day_number e, last_is_36524, within w.last x.last-there)) in
        let there : exists_of (next_day m.date) ≡ true = next-exists m.date y.day in
        record {
          exists = minute_there _ there (omega (arith, x.minutes, x.of_a_day));
          lies-there = lies-there w _ x there (record { from = omega arith; to = omega arith; start = omega arith; end = x.minutes });
          not-before = omega (arith, y.small);
          first = λ k ek lk h.
              let z : Lies w k = lies-facts w k x (minute_facts k ek).day lk in
              omega (arith, one, z.start, z.end, (minute_facts k ek).small);
        }

rolled : (d : Date) → exists_of d ≡ true → roll_date d ≡ next_day d
unfolding roll_date
rolled d e = simp e

never : ◌≡◌ {A = Bool} false true → ⊥
never e = let z : ◌≡◌ {A = ℕ} 0 1 = cc in omega arith

lasts-facts : (w : Window) (m : Moment) (t : Bool) → not_after m.date w.last ≡ t → lasts_on w m ≡ true → (t ≡ true) × (m.minute < w.end)
lasts-facts w m true e h = (refl, ltb-true _ _ (by_minute w m e ∙ h))
lasts-facts w m false e h = absurd (never (dates-over w m e ∙ h))

lasts-not : (w : Window) (m : Moment) → not_after m.date w.last ≡ true → lasts_on w m ≡ false → w.end ≤ m.minute
lasts-not w m e h = ltb-false _ _ (by_minute w m e ∙ h)

module _ (w : Window) (m : Moment) (x : Sound w) (y : Minute m) where
  by_tests : (s t u : Bool) → not_after w.first m.date ≡ s → lasts_on w m ≡ t → not_after w.last m.date ≡ u → Best (lies_in w) m (candidate_of w m)
  by_tests false t u e f g = subst (Best (lies_in w) m) (not-begun w m e) (first_day_lem w m x y e)
  by_tests true true u e f g =
      let h = lasts-facts w m _ refl f in
      subst (Best (lies_in w) m) (today w m e _ refl f)
      (this_day w m x y (day_le _ _ x.first-there y.day e) (day_le _ _ y.day x.last-there h.0) h.1)
  by_tests true false true e f g =
      subst (Best (lies_in w) m) (over w m e f g)
      (no_day w m x y (day_le _ _ x.first-there y.day e) (day_le _ _ x.last-there y.day g)
      (λ l. lasts-not w m (le_day _ _ y.day x.last-there l) f))
  by_tests true false false e f g =
      let l : day_number m.date < day_number w.last = day_gt _ _ x.last-there y.day g in
      subst (Best (lies_in w) m) (tomorrow w m e f _ (sym (rolled m.date y.day)) g)
      (next_day_lem w m x y (day_le _ _ x.first-there y.day e) l (lasts-not w m (le_day _ _ y.day x.last-there (omega arith)) f))

  pub candidate_best : Best (lies_in w) m (candidate_of w m)
  candidate_best = by_tests _ _ _ refl refl refl

-- ---- two answers
module _ (p q : Moment → Bool) (m : Moment) where
  abbrev one_of_lem : Moment → Bool
  one_of_lem k = p k || q k

  left-first : (f g : Moment) → First p m f → First q m g → minute_number f ≤ minute_number g → First one_of_lem m f
  left-first f g a b h =
      record {
        exists = a.exists;
        lies-there = or_left (p f) (q f) a.lies-there;
        not-before = a.not-before;
        first = λ k ek lk n. either (p k) (q k) lk (λ l. a.first k ek l n) (λ l. omega (arith, b.first k ek l n));
      }

  right-first : (f g : Moment) → First p m f → First q m g → minute_number g ≤ minute_number f → First one_of_lem m g
  right-first f g a b h =
      record {
        exists = b.exists;
        lies-there = or_right (p g) (q g) b.lies-there;
        not-before = b.not-before;
        first = λ k ek lk n. either (p k) (q k) lk (λ l. omega (arith, a.first k ek l n)) (λ l. b.first k ek l n);
      }

  by_order : (f g : Moment) → First p m f → First q m g → (t : Bool) → before g f ≡ t → First one_of_lem m (cond t g f)
  by_order f g a b true e =
      let h : minute_number g < minute_number f = ltb-true _ _ (sym (before-number g f (minute_facts g b.exists) (minute_facts f a.exists)) ∙ e) in
      right-first f g a b (omega arith)
  by_order f g a b false e =
      left-first f g a b (ltb-false _ _ (sym (before-number g f (minute_facts g b.exists) (minute_facts f a.exists)) ∙ e))

  pub earlier_best : (a b : Opening) → Best p m a → Best q m b → Best one_of_lem m (earlier_of a b)
  earlier_best (At f) (At g) x y = by_order f g x y (before g f) refl
  earlier_best (At f) None x y =
      record {
        exists = x.exists;
        lies-there = or_left (p f) (q f) x.lies-there;
        not-before = x.not-before;
        first = λ k ek lk n. either (p k) (q k) lk (λ l. x.first k ek l n) (λ l. absurd (y k ek l n));
      }
  earlier_best (At f) (Refused n) x y = absurd y
  earlier_best None (At g) x y =
      record {
        exists = y.exists;
        lies-there = or_right (p g) (q g) y.lies-there;
        not-before = y.not-before;
        first = λ k ek lk n. either (p k) (q k) lk (λ l. absurd (x k ek l n)) (λ l. y.first k ek l n);
      }
  earlier_best None None x y = λ k ek lk n. either (p k) (q k) lk (λ l. x k ek l n) (λ l. y k ek l n)
  earlier_best None (Refused n) x y = absurd y
  earlier_best (Refused n) b x y = absurd x

-- the same minutes by another test
same_best : (p q : Moment → Bool) (m : Moment) (a : Opening) → ((k : Moment) → p k ≡ q k) → Best p m a → Best q m a
same_best p q m (At f) e x =
    record { exists = x.exists; lies-there = sym (e f) ∙ x.lies-there; not-before = x.not-before; first = λ k ek lk n. x.first k ek (e k ∙ lk) n }
same_best p q m None e x = λ k ek lk n. x k ek (e k ∙ lk) n
same_best p q m (Refused n) e x = absurd x

-- ---- the list
regroup : (a b c : Bool) → ((a || b) || c) ≡ (a || (b || c))
regroup true b c = refl
regroup false b c = refl

no_more : (a : Bool) → a ≡ (a || false)
no_more true = refl
no_more false = refl

list_best : (m : Moment) → Minute m → (ws : List Window) → all_exist ws ≡ true → (p : Moment → Bool) (a : Opening) → Best p m a
    → Best (λ k. p k || is_open ws k) m (earliest_of m a ws)
unfolding all_exist is_open earliest_of
list_best m y [] h p a x = same_best p (λ k. p k || false) m a (λ k. no_more (p k)) x
list_best m y (w ∷ ws) h p a x =
    let b = both _ _ h in
    same_best (λ k. (p k || lies_in w k) || is_open ws k) (λ k. p k || (lies_in w k || is_open ws k)) m
    (earliest_of m (earlier_of a (candidate_of w m)) ws)
    (λ k. regroup (p k) (lies_in w k) (is_open ws k))
    (list_best m y ws b.1 (λ k. p k || lies_in w k) (earlier_of a (candidate_of w m))
    (earlier_best p (lies_in w) m a (candidate_of w m) x (candidate_best w m (sound-facts w b.0) y)))

nothing_yet_lem : (m : Moment) → Best (λ k. false) m None
nothing_yet_lem m k ek lk h = let z : ◌≡◌ {A = ℕ} 0 1 = cc in omega arith

searched : (ws : List Window) (m : Moment) → in_order ws m ≡ true → Best (is_open ws) m (find_of ws m)
unfolding in_order find_of
searched ws m h =
    let p = both (minute_exists m) (all_exist ws) (both (leb (length ws) 32) (minute_exists m && all_exist ws) h).1 in
    let e : find_of ws m ≡ earliest_of m None ws = simp h in
    subst (Best (is_open ws) m) (sym e) (list_best m (minute_facts m p.0) ws p.1 (λ k. false) None (nothing_yet_lem m))

-- ---- the promise
refuses : (ws : List Window) (m : Moment) → in_order ws m ≡ false → find_of ws m ≡ Refused 15
unfolding find_of
refuses ws m h = simp h

module _ (ws : List Window) (m : Moment) where
  -- an answer that is no refusal was searched for
  answer_best : (a : Opening) → find_of ws m ≡ a → (a ≡ Refused 15 → ⊥) → (t : Bool) → in_order ws m ≡ t → Best (is_open ws) m a
  answer_best a e other true h = subst (Best (is_open ws) m) e (searched ws m h)
  answer_best a e other false h = absurd (other (sym e ∙ refuses ws m h))

  found-earliest : (f : Moment) → find_of ws m ≡ At f → Earliest ws m f
  found-earliest f e =
      let b : First (is_open ws) m f = answer_best (At f) e (λ r. let z : ◌≡◌ {A = ℕ} 0 1 = cc in omega arith) _ refl in
      record { exists = b.exists; lies = b.lies-there; not-before = b.not-before; first = b.first }

  none_left : find_of ws m ≡ None → NoneLeft ws m
  none_left e k ek h lk = answer_best None e (λ r. let z : ◌≡◌ {A = ℕ} 0 1 = cc in omega arith) _ refl k ek lk h

  -- there is one earliest minute
  only-found : (a : Opening) → Best (is_open ws) m a → (f : Moment) → Earliest ws m f → a ≡ At f
  only-found (At g) b f e =
      let low = b.first f e.exists e.lies e.not-before in
      let high = e.first g b.exists b.lies-there b.not-before in
      ap At (one-moment g f (minute_facts g b.exists) (minute_facts f e.exists) (le_antisymm low high))
  only-found None b f e = absurd (b f e.exists e.lies e.not-before)
  only-found (Refused n) b f e = absurd b

  only_none : (a : Opening) → Best (is_open ws) m a → NoneLeft ws m → a ≡ None
  only_none (At f) b left = absurd (left f b.exists b.not-before b.lies-there)
  only_none None b left = refl
  only_none (Refused n) b left = absurd b

  no_refusal : (a : Opening) → Best (is_open ws) m a → opening_number a ≡ 0
  no_refusal (At f) b = refl
  no_refusal None b = refl
  no_refusal (Refused n) b = absurd b

  by_question : (t : Bool) → in_order ws m ≡ t → opening_number (find_of ws m) ≡ cond t 0 15
  by_question true h = no_refusal (find_of ws m) (searched ws m h)
  by_question false h = ap opening_number (refuses ws m h)

  no_answer : (t : Bool) → in_order ws m ≡ t → (t ≡ true → NoneLeft ws m) → opening_values (find_of ws m) ≡ []
  no_answer true h left = ap opening_values (only_none (find_of ws m) (searched ws m h) (left refl))
  no_answer false h left = ap opening_values (refuses ws m h)

  pub find_holds : FindHolds ws m
  find_holds =
      record {
        found = found-earliest;
        found-only = λ f h e. only-found (find_of ws m) (searched ws m h) f e;
        none = none_left;
        none_only = λ h left. only_none (find_of ws m) (searched ws m h) left;
        number = by_question (in_order ws m) refl;
        values = λ f h e. ap opening_values (only-found (find_of ws m) (searched ws m h) f e);
        no_values = no_answer (in_order ws m) refl;
      }
