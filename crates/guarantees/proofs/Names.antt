-- What a sound state says of one name: where a request waits, the source is another, its distance is 1 or more, and the number is in
-- first..last; the own next number lies outside.
use mathlib.Core.Path.{◌≡◌, refl, sym, ap, ◌∙◌, subst}
use mathlib.Core.Bool.{Bool, true, false, not}
use Prim.Native.Nat.{ℕ, ◌+◌, ◌≤◌, ◌<◌}
use native.Mathlib.Omega.{arith}
use mathlib.Core.List.{List}
use mathlib.Core.Option.{none, some}
use lib.ListN.{length, get_or}
use lib.Dec.{leb, eqb}
use borrow.Author.Tests.{leb-true, ltb-true, eqb-true, eqb-false, eq-eqb, not-true}
use Rattle.numbers.proofs.Cases.{by_order}
use Rattle.message.specs.Entry.{as_host, as_number}
use Rattle.message.specs.Question.{same_host}
use Rattle.message.proofs.QuestionLaws.{and_both}
use Rattle.end.specs.declared.Request.{Request}
use Rattle.end.specs.declared.Slot.{Slot}
use Rattle.end.specs.declared.Slot.TheVariants.{Empty, Held, Waiting}
use Rattle.end.specs.declared.Record.{Record}
use Rattle.end.specs.Parts.{Span, Closed, Open}
use Rattle.end.specs.declared.Source.{Source}
use Rattle.end.specs.declared.End.{End}
use Rattle.end.specs.declared.Moment.{Moment}
use Rattle.end.specs.State.{no_source, blank_record, source_at, distance_to}
use Rattle.end.specs.Records.{within, is_above, record_at, is_held, express_in}
use Rattle.end.specs.Sound.{time_limit, all_of, span_tests, request_tests, inside_sound, distance_sound, sound_of}
use Rattle.end.specs.Names.{asked, open_at}
use Rattle.end.specs.Event.{extended}
use Rattle.end.proofs.RecordLaws.{Narrow, within_in, within-below, within-above, above_outside, at_outside}
use Rattle.end.proofs.RiseLaws.{rise_elim, rise-length, rise_narrow, rise-reaches}
use Rattle.end.proofs.Facts.{narrow, last_in_lem}
use Rattle.end.proofs.SoundLaws.{nth}
use Rattle.end.proofs.Tools.{by_test, clash'}
use Rattle.invariants.proofs.Facts.{facts}
use Rattle.guarantees.specs.Records.{request_in, request_of}

-- a slot is one thing
pub waiting-not : {P : Type 0} (x : Slot) (q : Request) → x ≡ Empty → request_in x ≡ some q → P
waiting-not x q p h = let z : none ≡ some q = sym (ap request_in p) ∙ h in absurd (let w : ◌≡◌ {A = ℕ} 0 1 = cc in omega arith)

-- a request waits with what stands beside it
pub waits_as : (x : Slot) (q : Request) → request_in x ≡ some q → x ≡ Waiting q (express_in x)
waits_as Empty q h = cc
waits_as (Held reply) q h = cc
waits_as (Waiting p y) q h = let same : p ≡ q = cc in ap (λ (z : Request). Waiting z y) same

-- what waits lies in first..last
pub waits-inside : (s : Source) (n : ℕ) (q : Request) → request_in (record_at s n).slot ≡ some q → within s.span n ≡ true
waits-inside s n q p = by_test (within s.span n) (λ t. t) (λ t. waiting-not (record_at s n).slot q (ap (λ (r : Record). r.slot) (at_outside s n t)) p)

-- so does what is held
pub held-inside : (s : Source) (n : ℕ) → is_held (record_at s n).slot ≡ true → within s.span n ≡ true
held-inside s n h = by_test (within s.span n) (λ t. t) (λ t. clash' (sym (ap (λ (r : Record). is_held r.slot) (at_outside s n t)) ∙ h))

pub inside_not_above : (x : Span) (n : ℕ) → within x n ≡ true → is_above x n ≡ true → ⊥
inside_not_above Closed n w h = clash' w
inside_not_above (Open first last) n w h =
    omega (arith, leb-true n last.0 (and_both (leb first.0 n) (leb n last.0) w).1, ltb-true last.0 n h)

-- of the numbers above last an end has nothing
pub above-blank : (s : Source) (j : ℕ) → is_above s.span j ≡ true → record_at s j ≡ blank_record
above-blank s j h = at_outside s j (above_outside s.span j h)

abbrev pub source_of : End → ℕ → Source
source_of e h = get_or e.sources h no_source

-- what is known of a request that waits
pub record Waits (e : End) (h n : ℕ) (q : Request) : Type 0 where
  pub other : same_host (as_host h) e.host ≡ false
  pub most : q.round ≤ 16
  pub due : q.due < time_limit

pub sound-waits : (e : End) → sound_of e ≡ true → (h n : ℕ) → h < 8 → (q : Request) → request_of e h n ≡ some q → Waits e h n q
sound-waits e sound h n hh q p =
    let s = source_at e (as_host h) in
    let sounds = sym (ap (inside_sound e.host (as_host h) s.pair (record_at s n)) (waits_as (record_at s n).slot q p))
    ∙ ((facts e sound).each h hh).inside n (waits-inside s n q p) in
    let both = and_both (not (same_host (as_host h) e.host)) _ sounds in
    let tests = (and_both (all_of (request_tests q)) _ both.1).0 in
    record {
      other = not-true (same_host (as_host h) e.host) both.0;
      most = leb-true q.round 16 (nth (request_tests q) 1 tests);
      due = ltb-true q.due time_limit (nth (request_tests q) 2 tests);
    }

-- the distance to another host is 1 or more
pub far : (e : End) → sound_of e ≡ true → (h : ℕ) → h < 8 → same_host (as_host h) e.host ≡ false → 1 ≤ distance_to e (as_host h)
far e sound h hh other =
    let d = distance_to e (as_host h) in
    let between = sym (ap (λ (t : Bool). distance_sound t d) other) ∙ ((facts e sound).each h hh).distance in
    leb-true 1 d (and_both (leb 1 d) (leb d 1000) between).0

-- ---- the own next number

-- a span whose last, if any, is next−1
abbrev pub Ends : ℕ → Span → Type 0
Ends next Closed = Unit {0}
Ends next (Open first last) = last.0 + 1 ≡ next

pub own-ends : (e : End) → sound_of e ≡ true → Ends e.next (source_at e e.host).span × Narrow (source_at e e.host).span
own-ends e sound =
    let me = e.host in
    let s = source_at e me in
    let f = facts e sound in
    let tests = sym (ap (λ (t : Bool). all_of (span_tests t e.next s.missed s.span)) (eq-eqb me.0 me.0 refl)) ∙ (f.each me.0 f.host).span in
    (go s.missed s.span tests, narrow s.span (last_in_lem true e.next s.missed s.span tests))
  where
    go : (missed : ℕ) (x : Span) → all_of (span_tests true e.next missed x) ≡ true → Ends e.next x
    go missed Closed t = tt
    go missed (Open first last) t = eqb-true (last.0 + 1) e.next (nth (span_tests true e.next missed (Open first last)) 2 t)

pub next_outside : (next : ℕ) (x : Span) → Ends next x → within x next ≡ false
next_outside next Closed t = refl
next_outside next (Open first last) t = within-above first.0 last.0 next (omega arith)

-- only n lies in n..n
pub one-within : (n j : ℕ) → eqb j n ≡ false → within (Open (as_number n) (as_number n)) j ≡ false
one-within n j d = by_order j n (λ l. within-below n n j l) (λ l. let apart : j ≡ n → ⊥ = eqb-false j n d in within-above n n j (omega (arith, apart)))

-- a source extended to the next number: that number lies inside, every other is as it was, or is retired
module _ (t : Moment) (us : List ℕ) (next : ℕ) (s : Source) (sized : length s.names ≡ 64) where
  abbrev new : ℕ → Record
  new = asked t us s.distance

  pub next-inside : (x : Span) → Ends next x → Narrow x → within (extended t us next s x).span next ≡ true
  next-inside Closed ends o = within_in next next next (omega arith) (omega arith)
  next-inside (Open first last) ends o = rise-reaches new next s first last o (omega (arith, o.0))

  pub extended_narrow : (x : Span) → s.span ≡ x → Narrow x → Narrow (extended t us next s x).span
  extended_narrow Closed p o = (omega arith, omega arith)
  extended_narrow (Open first last) p o = rise_narrow new next s (Open first last) p o

  pub extended-length : (x : Span) → length (extended t us next s x).names ≡ length s.names
  extended-length Closed = refl
  extended-length (Open first last) = rise-length new next s (Open first last)

  pub extended_elim : (P : Record → Type 0) (x : Span) → s.span ≡ x → Ends next x → (j : ℕ) → eqb j next ≡ false
      → (within (extended t us next s x).span j ≡ true → P (record_at s j)) → (within (extended t us next s x).span j ≡ false → P blank_record)
      → P (record_at (extended t us next s x) j)
  extended_elim P Closed p ends j d kept gone =
      let out = one-within next j d in
      subst P (sym (at_outside (open_at next s) j out)) (gone out)
  extended_elim P (Open first last) p ends j d kept gone = rise_elim P new next s (Open first last) p sized j
      (λ above most. let apart : j ≡ next → ⊥ = eqb-false j next d in absurd (apart (omega (arith, ltb-true last.0 j above))))
      kept gone
