-- What a rise does, by cue number: what is read of a number afterwards, what is held, and how many are counted. `new` is what a new number's
-- record is.
use mathlib.Core.Path.{◌≡◌, refl, sym, ap, ◌∙◌, subst}
use mathlib.Core.Logic.{◌≢◌}
use mathlib.Core.Bool.{Bool, true, false, cond, ◌&&◌, true≢false}
use mathlib.Core.List.{List}
use Prim.Native.Nat.{ℕ, zero, suc, ◌+◌, ◌-◌, ◌%◌, ◌≤◌, ◌<◌, min, max}
use native.Mathlib.Omega.{arith}
use lib.ListN.{length, get_or, set, length-set}
use lib.Dec.{leb, ltb}
use borrow.Author.Tests.{lt-ltb, le-ltb, ltb-true, ltb-false}
use Rattle.numbers.proofs.Cases.{by_order}
use Rattle.message.specs.declared.CueNumber.{CueNumber}
use Rattle.message.specs.Entry.{as_number}
use Rattle.end.specs.declared.Record.{Record}
use Rattle.end.specs.Parts.{Span, Closed, Open}
use Rattle.end.specs.declared.Source.{Source}
use Rattle.end.specs.State.{blank_record, with_span, with_missed, with_names}
use Rattle.end.specs.Records.{place, within, is_above, is_held, raw_at, record_at}
use Rattle.end.specs.Names.{filled, lacking, holds_cue, first_after, raised, rise_with}
use Rattle.end.proofs.Tools.{by_cond, by_test}
use Rattle.end.proofs.RecordLaws.{raw_same, raw-other, inside, within_in, within-below, within-above, at_outside, Narrow}
use Rattle.end.proofs.Lacking.{in_parts}

-- ---- a run of new numbers
pub filled-length : (new : ℕ → Record) (k n : ℕ) (names : List Record) → length (filled new k n names) ≡ length names
unfolding filled
filled-length new zero n names = refl
filled-length new (suc k) n names = filled-length new k (n + 1) _ ∙ length-set names (place n) _

-- places that no new number has stay as they were
pub filled-out : (new : ℕ → Record) (k n : ℕ) (names : List Record) (m : ℕ) → ((j : ℕ) → n ≤ j → j < n + k → place m ≢ place j) → raw_at (filled new k n names) m ≡ raw_at names m
unfolding filled
filled-out new zero n names m d = refl
filled-out new (suc k) n names m d =
    filled-out new k (n + 1) _ m (λ j a b. d j (omega arith) (omega arith)) ∙ raw-other names n m _ (d n (omega arith) (omega arith))

-- the places of new numbers have nothing of what they had
pub filled_in : (new : ℕ → Record) (k n : ℕ) (names : List Record) (m : ℕ) → length names ≡ 64 → k ≤ 64 → n ≤ m → m < n + k → raw_at (filled new k n names) m ≡ new m
unfolding filled
filled_in new zero n names m h l a b = absurd (omega arith)
filled_in new (suc k) n names m h l a b =
    let rest = set names (place n) (new n) in
    by_order n m
    (λ c. filled_in new k (n + 1) rest m (length-set names (place n) (new n) ∙ h) (omega arith) (omega arith) (omega arith))
    (λ c.
    let same : n ≡ m = omega arith in
    filled-out new k (n + 1) rest m (λ j p q e. omega arith) ∙ subst (λ x. raw_at rest x ≡ new x) same (raw_same names n (new n) h))

-- the new numbers of a rise to l from last, with lo the first: what stands at the place of a new number, of an old one that is kept, and
-- of one of the 64 from lo on that lies above l
module _ (new : ℕ → Record) (names : List Record) (last lo l : ℕ) where
  abbrev pub renewed : List Record
  renewed = filled new (l + 1 - max lo (last + 1)) (max lo (last + 1)) names

  pub raw_new : (m : ℕ) → length names ≡ 64 → l ≤ lo + 63 → last < m → lo ≤ m → m ≤ l → raw_at renewed m ≡ new m
  raw_new m h near a b c = filled_in new (l + 1 - max lo (last + 1)) (max lo (last + 1)) names m h (omega arith) (omega arith) (omega arith)

  pub raw_old : (m : ℕ) → l ≤ lo + 63 → lo ≤ m → m ≤ last → raw_at renewed m ≡ raw_at names m
  raw_old m near a b = filled-out new (l + 1 - max lo (last + 1)) (max lo (last + 1)) names m (λ j p q e. omega arith)

  pub raw-over : (m : ℕ) → l < m → m < lo + 64 → raw_at renewed m ≡ raw_at names m
  raw-over m a b = filled-out new (l + 1 - max lo (last + 1)) (max lo (last + 1)) names m (λ j p q e. omega arith)

-- as a loop goes through them
pub filled_none : (new : ℕ → Record) (to i : ℕ) (names : List Record) → to ≤ i → filled new (to - i) i names ≡ names
unfolding filled
filled_none new to i names h =
    let e : to - i ≡ 0 = omega arith in
    rw e

pub filled_more : (new : ℕ → Record) (to i : ℕ) (names : List Record) → i < to → filled new (to - i) i names ≡ filled new (to - (i + 1)) (i + 1) (set names (place i) (new i))
unfolding filled
filled_more new to i names h =
    let e : to - i ≡ suc (to - (i + 1)) = omega arith in
    rw e

-- ---- the parts of a source that a rise leaves
module _ (new : ℕ → Record) (n : ℕ) (s : Source) where
  pub rise-length : (x : Span) → length (rise_with new n s x).names ≡ length s.names
  unfolding rise_with
  rise-length Closed = refl
  rise-length (Open first last) = filled-length new _ _ s.names

  pub rise-distance : (x : Span) → (rise_with new n s x).distance ≡ s.distance
  unfolding rise_with
  rise-distance Closed = refl
  rise-distance (Open first last) = refl

  pub rise-heard : (x : Span) → (rise_with new n s x).heard ≡ s.heard
  unfolding rise_with
  rise-heard Closed = refl
  rise-heard (Open first last) = refl

-- ---- one rise, read by number: outside the new first..last nothing, above the old last a new record, else what it had
pub rise-at : (new : ℕ → Record) (n : ℕ) (s : Source) (x : Span) → s.span ≡ x → length s.names ≡ 64 → (j : ℕ)
    → record_at (rise_with new n s x) j ≡ cond (within (rise_with new n s x).span j) (cond (is_above x j) (new j) (record_at s j)) blank_record
unfolding rise_with record_at
rise-at new n s Closed p h j = rw p
rise-at new n s (Open first last) p h j =
    let f = first.0 in
    let k = last.0 in
    let l = max k n in
    let lo = first_after f l in
    by_test (leb lo j && leb j l)
    (λ w.
    let i = inside lo l j w in
    let low : f ≤ j = omega (arith, i.low) in
    rw (p, w) (by_order k j
    (λ c. rw (lt-ltb k j c) (raw_new new s.names k lo l j h (omega arith) c i.low i.high))
    (λ c. rw (le-ltb k j c, within_in f k j low c) (raw_old new s.names k lo l j (omega arith) i.low c))))
    (λ w. rw w)

reaches-up : (new : ℕ → Record) (n : ℕ) (s : Source) (x : Span) (j : ℕ) → within (rise_with new n s x).span j ≡ true → is_above x j ≡ true → j ≤ n
unfolding rise_with
reaches-up new n s Closed j w a = absurd (true≢false (sym a))
reaches-up new n s (Open first last) j w a =
    let i = inside (first_after first.0 (max last.0 n)) (max last.0 n) j w in
    omega (arith, i.high, ltb-true last.0 j a)

-- the same as a choice: a new number up to n, one that is kept, or one that is not in first..last now
pub rise_elim {κ} : (P : Record → Type κ) (new : ℕ → Record) (n : ℕ) (s : Source) (x : Span) → s.span ≡ x → length s.names ≡ 64 → (j : ℕ)
    → (is_above x j ≡ true → j ≤ n → P (new j)) → (within (rise_with new n s x).span j ≡ true → P (record_at s j)) → (within (rise_with new n s x).span j ≡ false → P blank_record)
    → P (record_at (rise_with new n s x) j)
rise_elim P new n s x p h j f g b =
    rw (rise-at new n s x p h j)
    (by_cond P (within (rise_with new n s x).span j)
    (λ w. by_cond P (is_above x j) (λ a. f a (reaches-up new n s x j w a)) (λ a. g w))
    (λ w. b w))

-- ---- first and last after a rise of an open source
module _ (new : ℕ → Record) (n : ℕ) (s : Source) (first last : CueNumber) where
  abbrev pub last_now : ℕ
  last_now = max last.0 n

  abbrev pub first_now : ℕ
  first_now = first_after first.0 last_now

  pub rise-span : (rise_with new n s (Open first last)).span ≡ Open (as_number first_now) (as_number last_now)
  unfolding rise_with
  rise-span = refl

  -- a number that is not below first lies in first..last after the rise to it
  pub rise-reaches : Narrow (Open first last) → first.0 ≤ n → within (rise_with new n s (Open first last)).span n ≡ true
  unfolding rise_with
  rise-reaches w a = within_in first_now last_now n (omega (arith, w.0, w.1)) (omega arith)

  -- the count, said plainly: of the numbers retired, those without a cue
  pub missed-plain : s.span ≡ Open first last → first.0 ≤ last.0 → (rise_with new n s (Open first last)).missed ≡ s.missed + lacking (holds_cue s) (first_now - first.0) first.0
  unfolding rise_with
  missed-plain is up = in_parts (holds_cue s) s.missed first.0 last.0 first_now (omega arith) up none
    where
      none : (j : ℕ) → last.0 < j → holds_cue s j ≡ false
      none j l = ap (λ (r : Record). is_held r.slot) (at_outside s j (rw is (within-above first.0 last.0 j l)))

-- a risen span is narrow
pub rise_narrow : (new : ℕ → Record) (n : ℕ) (s : Source) (x : Span) → s.span ≡ x → Narrow x → Narrow (rise_with new n s x).span
unfolding rise_with
rise_narrow new n s Closed p w = rw p tt
rise_narrow new n s (Open first last) p w = (omega (arith, w.0, w.1), omega arith)

-- where n is not above last, nothing happens
still_first : (first last : ℕ) → first ≤ last → last ≤ first + 63 → max first (last - 63) ≡ first
still_first first last a b = omega arith

still_retired : (first last : ℕ) → first ≤ last → min first (last + 1) - first ≡ 0
still_retired first last a = omega arith

still_new : (first last : ℕ) → first ≤ last → last + 1 - max first (last + 1) ≡ 0
still_new first last a = omega arith

still_over : (m first last : ℕ) → first ≤ last → m + 0 + (first - (last + 1)) ≡ m
still_over m first last a = omega arith

pub rise_still : (new : ℕ → Record) (n : ℕ) (s : Source) (x : Span) → s.span ≡ x → Narrow x → is_above x n ≡ false → rise_with new n s x ≡ s
unfolding rise_with filled lacking
rise_still new n s Closed p w u = refl
rise_still new n s (Open first last) p w u =
    let f = first.0 in
    let k = last.0 in
    let le = ltb-false k n u in
    let l : max k n ≡ k = omega arith in
    rw (l, still_first f k w.0 w.1, still_retired f k w.0, still_new f k w.0)
    (λ i. record { span = (sym p) i; missed = still_over s.missed f k w.0 i; pair = s.pair; distance = s.distance; heard = s.heard; names = s.names; origin = s.origin; attempts = s.attempts })
