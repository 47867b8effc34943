-- One call on a sound window: it leaves a sound one, loses what trail passed, and each number stays accounted for.
use mathlib.Core.Path.{◌≡◌, refl, sym, ◌∙◌}
use mathlib.Core.Bool.{true, false, not, ◌&&◌}
use mathlib.Core.Option.{Option, none, some}
use Prim.Native.Nat.{ℕ, ◌+◌, ◌-◌, ◌/◌, ◌^◌, ◌≤◌, max}
use native.Mathlib.Nat.{lt_of_lt_of_le}
use native.Mathlib.Omega.{arith}
use lib.Dec.{leb, ltb, eqb}
use lib.Pow.{pow_mono, shr_lt}
use borrow.Author.Tests.{le-leb, lt-leb, leb-true, ltb-true, not-true}
use Rattle.numbers.specs.Bits.{bit, with_bit}
use Rattle.numbers.proofs.Cases.{by_flag}
use Rattle.numbers.proofs.BitLaws.{bit-none, with_below}
use Rattle.message.specs.Entry.{as_number}
use Rattle.message.specs.declared.CueNumber.{CueNumber}
use Rattle.message.proofs.QuestionLaws.{and_both}
use Rattle.end.proofs.Tools.{clash'}
use Rattle.display_window.specs.Parts.{Seen, Unstarted, started}
use Rattle.display_window.specs.declared.Lost.{Lost}
use Rattle.display_window.specs.Window.{raised, received, is_new, start_at, taken, none_lost, lost_by}
use Rattle.display_window.proofs.WindowLaws.{SoundWindow}
use Rattle.display_history.specs.History.{one, is_the, in_set, in_span}
use Rattle.display_history.proofs.NumberLaws.{lost-at, moved-bit, missing_at, other-bit, same_bit, new_bit, received-at}
use Rattle.display_history.proofs.Moves.{Went, Stays, Starts, Takes, Announces}

-- how many of a number's reports a call makes
abbrev pub lost_in : Lost → ℕ → ℕ
lost_in l n = one (in_set l n) + one (in_span l.above n)

pub none-lost : (n : ℕ) → lost_in none_lost n ≡ 0
none-lost n = rw (bit-none (n - 0), le-leb 0 n (omega arith))

-- ---- a started window: trail t, lead l and set s, and a number n
pub record Raised (t l s n : ℕ) (h : Option ℕ) (lost : Lost) (v : Seen) : Type 0 where
  pub trail : ℕ
  pub lead : ℕ
  pub set : ℕ
  pub is : v ≡ started (as_number trail) (as_number lead) set
  pub sound : SoundWindow trail lead set
  pub trails : t ≤ trail
  pub leads : l ≤ lead
  pub passed : lost_in lost n ≡ one ((leb t n && not (leb trail n)) && not (leb t n && bit s (n - t)))
  pub once : one (is_the h n) + lost_in lost n + one ((leb trail n && leb n lead) && not (bit set (n - trail)))
      ≡ one ((leb t n && leb n l) && not (bit s (n - t))) + one (ltb l n && leb n lead)
  pub held : trail ≤ n → one (bit set (n - trail)) ≡ one (bit s (n - t)) + one (is_the h n)

module _ (t l s n : ℕ) (w : SoundWindow t l s) where
  abbrev This : Seen
  This = started (as_number t) (as_number l) s

  -- ---- nothing changes
  stays : Raised t l s n none none_lost This
  stays =
      let more : one (ltb l n && leb n l) ≡ 0 = by_flag (ltb l n) (λ x. rw (x, above x)) (λ x. rw x) in
      let passed : one ((leb t n && not (leb t n)) && not (leb t n && bit s (n - t))) ≡ 0 = by_flag (leb t n) (λ x. rw x) (λ x. rw x) in
      record {
        trail = t;
        lead = l;
        set = s;
        is = refl;
        sound = w;
        trails = omega arith;
        leads = omega arith;
        passed = none-lost n ∙ sym passed;
        once = omega (arith, none-lost n, more);
        held = λ _. omega arith;
      }
    where
      above : ltb l n ≡ true → leb n l ≡ false
      above x = lt-leb n l (ltb-true l n x)

  -- ---- trail and lead rise to top and lead
  module _ (from to : ℕ) (ordered : from ≤ to) (near : to ≤ from + 63) where
    abbrev Top : ℕ
    Top = max t from

    abbrev Lead : ℕ
    Lead = max l to

    abbrev Set : ℕ
    Set = s / 2 ^ (Top - t)

    raised-sound : SoundWindow Top Lead Set
    raised-sound =
        let width : l + 1 - t ≤ (Lead + 1 - Top) + (Top - t) = omega (arith, w.ordered) in
        record {
          ordered = omega (arith, w.ordered);
          near = omega (arith, w.near);
          within = shr_lt (Lead + 1 - Top) (Top - t) (lt_of_lt_of_le w.within (pow_mono width));
        }

    raised-passed : lost_in (lost_by from This) n ≡ one ((leb t n && not (leb Top n)) && not (leb t n && bit s (n - t)))
    unfolding lost_by
    raised-passed = lost-at t l s Top n w (omega arith)

    raised-once : lost_in (lost_by from This) n + one ((leb Top n && leb n Lead) && not (bit Set (n - Top)))
        ≡ one ((leb t n && leb n l) && not (bit s (n - t))) + one (ltb l n && leb n Lead)
    raised-once = rw raised-passed (missing_at t l s Top n w (omega arith) Lead (omega arith) (omega (arith, w.ordered)))

    raised-held : Top ≤ n → bit Set (n - Top) ≡ bit s (n - t)
    raised-held a = moved-bit t l s Top n w (omega arith) a

    announces : Raised t l s n none (lost_by from This) (raised from to This)
    unfolding raised
    announces = record {
      trail = Top;
      lead = Lead;
      set = Set;
      is = refl;
      sound = raised-sound;
      trails = omega arith;
      leads = omega arith;
      passed = raised-passed;
      once = omega (arith, raised-once);
      held = λ a. rw (raised-held a) (omega arith);
    }

  -- ---- a new cue k
  module _ (k : ℕ) (low : t ≤ k) (new : bit s (k - t) ≡ false) where
    abbrev Low : ℕ
    Low = max t (k - 63)

    abbrev High : ℕ
    High = max l k

    abbrev Old : ℕ
    Old = s / 2 ^ (Low - t)

    -- it was missing, once trail and lead had risen
    still_new : bit Old (k - Low) ≡ false
    still_new = moved-bit t l s Low k w (omega arith) (omega arith) ∙ new

    takes : Raised t l s n (some k) (lost_by (k - 63) This) (taken k This)
    unfolding raised received
    takes =
        let r = raised-sound (k - 63) k (omega arith) (omega arith) in
        let missed = raised-once (k - 63) k (omega arith) (omega arith) in
        let got = received-at Low High Old k n (omega arith) (omega arith) still_new in
        record {
          trail = Low;
          lead = High;
          set = with_bit Old (k - Low);
          is = refl;
          sound = record { ordered = r.ordered; near = r.near; within = with_below Old (k - Low) (High + 1 - Low) r.within (omega arith) };
          trails = omega arith;
          leads = omega arith;
          passed = raised-passed (k - 63) k (omega arith) (omega arith);
          once = omega (arith, missed, got);
          held = λ a. held-now a;
        }
      where
        held-now : Low ≤ n → one (bit (with_bit Old (k - Low)) (n - Low)) ≡ one (bit s (n - t)) + one (eqb k n)
        held-now a =
            let same = raised-held (k - 63) k (omega arith) (omega arith) a in
            by_flag (eqb k n)
            (λ e.
            let now-in = same_bit Low High Old k n (omega arith) (omega arith) still_new e in
            rw (e, now-in, ← same, new_bit Low High Old k n (omega arith) (omega arith) still_new e))
            (λ e. rw (e, other-bit Low High Old k n (omega arith) (omega arith) still_new a e, same) (omega arith))

new_is : (trail lead : CueNumber) (set k : ℕ) → is_new (started trail lead set) k ≡ true → (trail.0 ≤ k) × (bit set (k - trail.0) ≡ false)
unfolding is_new
new_is trail lead set k h =
    let a = and_both (leb trail.0 k) (not (bit set (k - trail.0))) h in
    (leb-true trail.0 k a.0, not-true (bit set (k - trail.0)) a.1)

-- ---- any call on a started window
pub started_went : (trail lead : CueNumber) (set n : ℕ) (h : Option ℕ) (lost : Lost) (v : Seen) → SoundWindow trail.0 lead.0 set
    → Went (started trail lead set) h lost v → Raised trail.0 lead.0 set n h lost v
started_went trail lead set n h lost v w (Stays p q r) = rw (p, q, r) (stays trail.0 lead.0 set n w)
started_went trail lead set n h lost v w (Starts k b e p q r) = let z : ◌≡◌ {A = ℕ} 0 1 = cc in absurd (omega arith)
started_went trail lead set n h lost v w (Takes k b new p q r) =
    let f = new_is trail lead set k new in
    rw (p, q, r) (takes trail.0 lead.0 set n w k f.0 f.1)
started_went trail lead set n h lost v w (Announces from to a b s p q r) = rw (p, q, r) (announces trail.0 lead.0 set n w from to a b)

-- ---- and on one that is not started: nothing, or its start
pub data Began (h : Option ℕ) (lost : Lost) (v : Seen) : Type 0 where
  Waits : h ≡ none → lost ≡ none_lost → v ≡ Unstarted → Began h lost v
  Begins : (k : ℕ) → h ≡ some k → lost ≡ none_lost → v ≡ start_at k → Began h lost v

pub unstarted_went : (h : Option ℕ) (lost : Lost) (v : Seen) → Went Unstarted h lost v → Began h lost v
unfolding lost_by raised is_new
unstarted_went h lost v (Stays p q r) = Waits p q r
unstarted_went h lost v (Starts k b e p q r) = Begins k p q r
unstarted_went h lost v (Takes k b new p q r) = clash' new
unstarted_went h lost v (Announces from to a b s p q r) = Waits p q r

pub start-sound : (k : ℕ) → SoundWindow k k 1
start-sound k =
    let one_place : k + 1 - k ≡ 1 = omega arith in
    record { ordered = omega arith; near = omega arith; within = rw one_place (omega arith) }
