-- Each definition of the windows, once its tests are known: what a function's `return` cites. A law takes the facts that led to the
-- `return`, so that no proof counts the statements before it.
use mathlib.Core.Path.{◌≡◌, ap, ◌∙◌}
use Prim.Native.Nat.{ℕ, ◌≤◌, ◌<◌, max}
use mathlib.Core.Bool.{true, false}
use lib.Dec.{ltb, leb}
use borrow.Author.Tests.{lt-ltb, le-ltb, le-leb, lt-leb}
use Rattle.calendar.specs.declared.Date.{Date}
use Rattle.calendar.specs.Calendar.{exists_of, not_after, roll_date}
use Rattle.openings.specs.declared.Window.{Window}
use Rattle.openings.specs.declared.Moment.{Moment}
use Rattle.openings.specs.declared.Opening.{Opening}
use Rattle.openings.specs.declared.Opening.TheVariants.{At, None, Refused}
use Rattle.openings.specs.Windows.{moment, minute_exists, window_exists, before}
use Rattle.openings.specs.Find.{lasts_on, candidate_of, earlier_of}
use Rattle.openings.specs.Pass.{start_of, with_window}

-- ---- a window
pub bad_first : (w : Window) → exists_of w.first ≡ false → false ≡ window_exists w
unfolding window_exists
bad_first w a = simp a

module _ (w : Window) (a : exists_of w.first ≡ true) where
  pub bad_last : exists_of w.last ≡ false → false ≡ window_exists w
  unfolding window_exists
  bad_last b = simp (a, b)

  module _ (b : exists_of w.last ≡ true) where
    pub bad_span : not_after w.first w.last ≡ false → false ≡ window_exists w
    unfolding window_exists
    bad_span c = simp (a, b, c)

    pub no_minutes : not_after w.first w.last ≡ true → w.end ≤ w.start → false ≡ window_exists w
    unfolding window_exists
    no_minutes c d = simp (a, b, c, le-ltb _ _ d)

    pub by_end : not_after w.first w.last ≡ true → w.start < w.end → leb w.end 1440 ≡ window_exists w
    unfolding window_exists
    by_end c d = simp (a, b, c, lt-ltb _ _ d)

-- ---- the order of minutes
pub later_day : (a b : Moment) → not_after a.date b.date ≡ false → false ≡ before a b
unfolding before
later_day a b e = simp e

pub earlier_day : (a b : Moment) → not_after a.date b.date ≡ true → not_after b.date a.date ≡ false → true ≡ before a b
unfolding before
earlier_day a b e f = simp (e, f)

pub same_day : (a b : Moment) → not_after a.date b.date ≡ true → not_after b.date a.date ≡ true → ltb a.minute b.minute ≡ before a b
unfolding before
same_day a b e f = simp (e, f)

-- ---- the earliest minute of one window
pub not-begun : (w : Window) (m : Moment) → not_after w.first m.date ≡ false → At (moment w.first w.start) ≡ candidate_of w m
unfolding candidate_of
not-begun w m a = simp a

module _ (w : Window) (m : Moment) (a : not_after w.first m.date ≡ true) where
  pub today : (r : ℕ) → r ≡ max m.minute w.start → lasts_on w m ≡ true → At (moment m.date r) ≡ candidate_of w m
  unfolding candidate_of
  today r e b = ap (λ (k : ℕ). At (moment m.date k)) e ∙ simp (a, b)

  -- the day's minutes of the window are over, or its dates are
  module _ (past : lasts_on w m ≡ false) where
    pub over : not_after w.last m.date ≡ true → None ≡ candidate_of w m
    unfolding candidate_of
    over b = simp (a, past, b)

    pub tomorrow : (r : Date) → r ≡ roll_date m.date → not_after w.last m.date ≡ false → At (moment r w.start) ≡ candidate_of w m
    unfolding candidate_of
    tomorrow r e b = ap (λ (z : Date). At (moment z w.start)) e ∙ simp (a, past, b)

pub dates-over : (w : Window) (m : Moment) → not_after m.date w.last ≡ false → false ≡ lasts_on w m
unfolding lasts_on
dates-over w m a = simp a

pub by_minute : (w : Window) (m : Moment) → not_after m.date w.last ≡ true → ltb m.minute w.end ≡ lasts_on w m
unfolding lasts_on
by_minute w m a = simp a

-- ---- the pass
pub too_many : (n : ℕ) (m : Moment) → 32 < n → Refused 15 ≡ start_of n m
unfolding start_of
too_many n m a = simp (lt-leb _ _ a)

module _ (n : ℕ) (m : Moment) (a : n ≤ 32) where
  pub no_date : exists_of m.date ≡ false → Refused 15 ≡ start_of n m
  unfolding start_of minute_exists
  no_date b = simp (le-leb _ _ a, b)

  module _ (b : exists_of m.date ≡ true) where
    pub no_minute : 1440 ≤ m.minute → Refused 15 ≡ start_of n m
    unfolding start_of minute_exists
    no_minute c = simp (le-leb _ _ a, b, le-ltb _ _ c)

    pub none_yet : m.minute < 1440 → None ≡ start_of n m
    unfolding start_of minute_exists
    none_yet c = simp (le-leb _ _ a, b, lt-ltb _ _ c)

pub bad_window : (m : Moment) (best : Opening) (w : Window) → window_exists w ≡ false → Refused 15 ≡ with_window m best w
unfolding with_window
bad_window m best w a = simp a

pub good_window : (m : Moment) (best : Opening) (w : Window) (r c : Opening) → window_exists w ≡ true → r ≡ earlier_of best c → c ≡ candidate_of w m
    → r ≡ with_window m best w
unfolding with_window
good_window m best w r c a e f = e ∙ ap (earlier_of best) f ∙ simp a
