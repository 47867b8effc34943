-- What the steps on a source change of what the service sees: a round and a reply change nothing, a rise raises last and retires what is
-- below first, a held cue is taken.
use mathlib.Core.Path.{◌≡◌, refl, sym, ap, ◌∙◌}
use mathlib.Core.Bool.{Bool, true, false, ◌&&◌}
use mathlib.Core.List.{List}
use mathlib.Core.Option.{Option, none, some}
use Prim.Native.Nat.{ℕ, ◌+◌, ◌-◌, ◌≤◌, ◌<◌, max}
use native.Mathlib.Omega.{arith}
use lib.ListN.{length}
use lib.Dec.{eqb, leb}
use borrow.Author.Tests.{eqb-false, eq-eqb, leb-true, le-leb, lt-leb, ltb-true, ltb-false}
use Rattle.numbers.proofs.Cases.{by_order}
use Rattle.message.specs.declared.CueNumber.{CueNumber}
use Rattle.end.specs.Parts.{Express, Reply, Span, Closed, Open}
use Rattle.end.specs.declared.Slot.{Slot}
use Rattle.end.specs.declared.Slot.TheVariants.{Empty, Held, Waiting}
use Rattle.end.specs.declared.Record.{Record}
use Rattle.end.specs.declared.Source.{Source}
use Rattle.end.specs.State.{blank_record}
use Rattle.end.specs.Records.{is_closed, within, is_above, is_held, record_at, with_record, with_reply, with_express}
use Rattle.end.specs.Names.{holding, hold, first_after, rise_with, open_at}
use Rattle.end.specs.Book.{raised_to, higher, not_below}
use Rattle.end.proofs.Tools.{by_test, clash, clash', and_left}
use Rattle.end.proofs.RecordLaws.{Narrow, inside, within_in, within-below, within-above, at_outside, above_outside, read_same, read_other, store_elim}
use Rattle.end.proofs.RiseLaws.{rise_elim, rise-length, rise_narrow, rise-reaches}
use Rattle.end.proofs.Service.View.{held_in_lem, first_in, last_in, windowed, held_at, or_else, SameSource, RoseSource, TookSource}

-- ---- what a record holds
pub held-is : (x : Slot) (c : List ℕ) → is_held x ≡ true → held_in_lem x c ≡ some c
unfolding held_in_lem
held-is Empty c h = clash' h
held-is (Held reply) c h = refl
held-is (Waiting q x) c h = clash' h

pub not_held_is : (x : Slot) (c : List ℕ) → is_held x ≡ false → held_in_lem x c ≡ none
unfolding held_in_lem
not_held_is Empty c h = refl
not_held_is (Held reply) c h = clash h
not_held_is (Waiting q x) c h = refl

-- the reply beside a cue is none of the service's business
pub any_reply : (reply : Reply) (x : Slot) (c : List ℕ) → held_in_lem (with_reply reply x) c ≡ held_in_lem x c
unfolding held_in_lem
any_reply reply Empty c = refl
any_reply reply (Held was) c = refl
any_reply reply (Waiting q x) c = refl

-- nor is the express wait beside a request
pub any_express : (x : Express) (y : Slot) (c : List ℕ) → held_in_lem (with_express x y) c ≡ held_in_lem y c
unfolding held_in_lem
any_express x Empty c = refl
any_express x (Held reply) c = refl
any_express x (Waiting q was) c = refl

abbrev held_by : Record → Option (List ℕ)
held_by r = held_in_lem r.slot r.cue

-- outside first..last nothing is held
pub outside_none : (s : Source) (n : ℕ) → within s.span n ≡ false → held_at s n ≡ none
unfolding held_at held_in_lem
outside_none s n h = ap held_by (at_outside s n h)

-- what is not held in a source is below its first, or lies above its last, or is missing: a number inside is not below first
pub within_not_below : (x : Span) (n : ℕ) → within x n ≡ true → not_below (first_in x) n ≡ true
unfolding not_below first_in
within_not_below Closed n h = refl
within_not_below (Open first last) n h = and_left (leb first.0 n) (leb n last.0) h

pub below_none : (s : Source) (n : ℕ) → not_below (first_in s.span) n ≡ false → held_at s n ≡ none
below_none s n h = by_test (within s.span n) (λ w. clash (sym (within_not_below s.span n w) ∙ h)) (λ w. outside_none s n w)

-- ---- first and last that stay
pub still_window : (x : Span) → Narrow x → windowed (first_in x) (last_in x) ≡ first_in x
unfolding windowed first_in last_in
still_window Closed o = refl
still_window (Open first last) o = let e : max first.0 (last.0 - 63) ≡ first.0 = omega (arith, o.1) in rw e

pub still_top : (x : Span) (n : ℕ) → is_above x n ≡ false → raised_to n (last_in x) ≡ last_in x
unfolding raised_to last_in
still_top Closed n h = refl
still_top (Open first last) n h = let e : max last.0 n ≡ last.0 = omega (arith, ltb-false last.0 n h) in rw e

-- first only rises
pub window-up : (f top : Option ℕ) (j : ℕ) → not_below (windowed f top) j ≡ true → not_below f j ≡ true
unfolding windowed not_below
window-up none top j h = h
window-up (some f) none j h = h
window-up (some f) (some top) j h = le-leb f j (omega (arith, leb-true (max f (top - 63)) j h))

-- ---- joining changes
pub same_refl_source : (s : Source) → SameSource s s
same_refl_source s = record { first = refl; last = refl; holding = λ n. refl }

-- a source that looks the same has risen to a number that is not above its last
pub same_rose : (another : Bool) (s s' : Source) (n : ℕ) → Narrow s.span → (another ≡ true → is_above s.span n ≡ false) → SameSource s s' → RoseSource another s s' n
same_rose another s s' n o low v = record {
  first = λ a. v.first ∙ sym (ap (windowed (first_in s.span)) v.last ∙ still_window s.span o);
  last = λ a. v.last ∙ sym (still_top s.span n (low a));
  up = λ j h. ap (λ o. not_below o j) (sym v.first) ∙ h;
  holding = λ j _. v.holding j;
}

pub rose_same : {another : Bool} {a b c : Source} {n : ℕ} → RoseSource another a b n → SameSource b c → RoseSource another a c n
rose_same {another} {a} {b} {c} {n} p q = record {
  first = λ x. q.first ∙ p.first x ∙ ap (windowed (first_in a.span)) (sym q.last);
  last = λ x. q.last ∙ p.last x;
  up = λ j h. p.up j (ap (λ o. not_below o j) (sym q.first) ∙ h);
  holding = λ j h. q.holding j ∙ p.holding j (ap (λ o. not_below o j) (sym q.first) ∙ h);
}

pub took_same : {a b c : Source} {n : ℕ} {x : List ℕ} → TookSource a b n x → SameSource b c → TookSource a c n x
took_same {a} {b} {c} {n} {x} p q = record {
  first = q.first ∙ p.first ∙ ap (windowed (some (or_else (first_in a.span) n))) (sym q.last);
  last = q.last ∙ p.last;
  there = q.holding n ∙ p.there;
  holding = λ j d h. q.holding j ∙ p.holding j d (ap (λ o. not_below o j) (sym q.first) ∙ h);
}

-- ---- one record of a number in first..last
pub same_record : (s : Source) (n : ℕ) (r : Record) → Narrow s.span → within s.span n ≡ true → length s.names ≡ 64 → held_in_lem r.slot r.cue ≡ held_at s n
    → SameSource s (with_record s n r)
unfolding held_at
same_record s n r o w l h = record {
  first = refl;
  last = refl;
  holding = λ j. store_elim (λ (y : Record). held_by y ≡ held_by (record_at s j)) s n r j o w l (λ i. rw i h) refl;
}

-- a cue is held in a source in which its number lies
held-there : (s : Source) (n : ℕ) (c : List ℕ) → within s.span n ≡ true → length s.names ≡ 64 → held_at (hold n c s) n ≡ some c
unfolding held_at held_in_lem
held-there s n c w l = ap held_by (read_same s n (holding (record_at s n) c) w l)

held_else : (s : Source) (n : ℕ) (c : List ℕ) → Narrow s.span → within s.span n ≡ true → (j : ℕ) → eqb j n ≡ false → held_at (hold n c s) j ≡ held_at s j
unfolding held_at
held_else s n c o w j d = ap held_by (read_other s n (holding (record_at s n) c) j o w d)

-- ---- the source is opened with its cue
pub took_opened : (s : Source) (n : ℕ) (c : List ℕ) → s.span ≡ Closed → length s.names ≡ 64 → TookSource s (hold n c (open_at n s)) n c
unfolding first_in last_in windowed or_else higher
took_opened s n c p l =
    let w : within (open_at n s).span n ≡ true = within_in n n n (omega arith) (omega arith) in
    let e : max n (n - 63) ≡ n = omega arith in
    record {
      first = rw (p, e);
      last = rw p;
      there = held-there (open_at n s) n c w l;
      holding = λ j d h. held_else (open_at n s) n c (omega arith, omega arith) w j d
          ∙ outside_none (open_at n s) j (only n j d) ∙ sym (outside_none s j (rw p));
    }
  where
    only : (n j : ℕ) → eqb j n ≡ false → leb n j && leb j n ≡ false
    only n j d = by_order j n (λ k. within-below n n j k) (λ k. within-above n n j (omega (arith, eqb-false j n d)))

-- ---- last rises: the new numbers were above last, and nothing is held there
beyond : (new : ℕ → Record) (n : ℕ) (s : Source) (x : Span) (j : ℕ) → s.span ≡ x → not_below (first_in (rise_with new n s x).span) j ≡ true → within (rise_with new n s x).span j ≡ false
    → within x j ≡ false
unfolding rise_with first_in not_below
beyond new n s Closed j p a b = refl
beyond new n s (Open first last) j p a b = by_order last.0 j
    (λ k. within-above first.0 last.0 j k)
    (λ k.
    let lo = first_after first.0 (max last.0 n) in
    let low : lo ≤ j = leb-true lo j a in
    clash (sym (within_in lo (max last.0 n) j low (omega arith)) ∙ b))

rise-first : (new : ℕ → Record) (n : ℕ) (s : Source) (x : Span) → s.span ≡ x → first_in (rise_with new n s x).span ≡ windowed (first_in x) (last_in (rise_with new n s x).span)
unfolding rise_with first_in last_in windowed
rise-first new n s Closed p = rw p
rise-first new n s (Open first last) p = refl

rise-last : (new : ℕ → Record) (n : ℕ) (s : Source) (x : Span) → s.span ≡ x → last_in (rise_with new n s x).span ≡ raised_to n (last_in x)
unfolding rise_with last_in raised_to
rise-last new n s Closed p = rw p
rise-last new n s (Open first last) p = refl

first_open : (n : ℕ) (x : Span) → is_closed x ≡ false → first_in x ≡ some (or_else (first_in x) n)
unfolding first_in or_else
first_open n Closed h = clash h
first_open n (Open first last) h = refl

last_open : (n : ℕ) (x : Span) → is_closed x ≡ false → raised_to n (last_in x) ≡ some (higher (last_in x) n)
unfolding last_in raised_to higher
last_open n Closed h = clash h
last_open n (Open first last) h = refl

module _ (new : ℕ → Record) (bare : (m : ℕ) → is_held (new m).slot ≡ false) (n : ℕ) (s : Source) (l : length s.names ≡ 64) where
  rise-holding : (j : ℕ) → not_below (first_in (rise_with new n s s.span).span) j ≡ true → held_at (rise_with new n s s.span) j ≡ held_at s j
  unfolding held_at held_in_lem
  rise-holding j h = rise_elim (λ (y : Record). held_by y ≡ held_by (record_at s j)) new n s s.span refl l j
      (λ above up. not_held_is (new j).slot (new j).cue (bare j) ∙ sym (outside_none s j (above_outside s.span j above)))
      (λ w. refl)
      (λ w. sym (outside_none s j (beyond new n s s.span j refl h w)))

  pub rose : (another : Bool) → RoseSource another s (rise_with new n s s.span) n
  rose another = record {
    first = λ a. rise-first new n s s.span refl;
    last = λ a. rise-last new n s s.span refl;
    up = λ j h. window-up (first_in s.span) (last_in (rise_with new n s s.span).span) j (ap (λ o. not_below o j) (sym (rise-first new n s s.span refl)) ∙ h);
    holding = rise-holding;
  }

  -- and the cue of the number is held: for a number that is not below first
  pub took_risen : Narrow s.span → is_closed s.span ≡ false → within (rise_with new n s s.span).span n ≡ true → (c : List ℕ)
      → TookSource s (hold n c (rise_with new n s s.span)) n c
  took_risen o began w c =
      let x = rise_with new n s s.span in
      let long : length x.names ≡ 64 = rise-length new n s s.span ∙ l in
      record {
        first = rise-first new n s s.span refl ∙ ap (λ f. windowed f (last_in x.span)) (first_open n s.span began);
        last = rise-last new n s s.span refl ∙ last_open n s.span began;
        there = held-there x n c w long;
        holding = λ j d h. held_else x n c (rise_narrow new n s s.span refl o) w j d ∙ rise-holding j h;
      }
