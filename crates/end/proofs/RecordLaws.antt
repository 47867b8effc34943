-- The laws of a source's records by number: what is read after a store and after first or last changed. Numbers less than 64 apart stand at
-- different places, so a record that was stored by its number is read by it, and those of the other numbers in first..last are as they were.
-- With these, and with the laws of a rise (RiseLaws), no other proof looks at places.
use mathlib.Core.Path.{◌≡◌, refl, sym, ap, ◌∙◌, subst}
use mathlib.Core.Logic.{◌≢◌}
use Prim.Native.Nat.{ℕ, ◌+◌, ◌%◌, ◌≤◌, ◌<◌}
use native.Mathlib.Omega.{arith}
use mathlib.Core.Bool.{Bool, true, false, cond, ◌&&◌}
use mathlib.Core.List.{List}
use lib.ListN.{length, set, length-set}
use lib.Seq.{get_or-set_same, get_or-set_other}
use lib.Dec.{leb, eqb}
use borrow.Author.Tests.{eqb-true, eqb-false, le-leb, lt-leb, ltb-true, leb-true}
use Rattle.message.specs.declared.CueNumber.{CueNumber}
use Rattle.message.proofs.QuestionLaws.{and_both}
use Rattle.end.specs.declared.Record.{Record}
use Rattle.end.specs.Parts.{Span, Closed, Open}
use Rattle.end.specs.declared.Source.{Source}
use Rattle.end.specs.State.{no_record, blank_record, with_span}
use Rattle.end.specs.Records.{within, is_above, place, raw_at, record_at, with_record}
use Rattle.end.proofs.Tools.{by_cond, by_test, clash'}

-- ---- first and last
and_no : (a b : Bool) → b ≡ false → a && b ≡ false
and_no true b h = h
and_no false b h = refl

pub within_in : (first last n : ℕ) → first ≤ n → n ≤ last → leb first n && leb n last ≡ true
within_in first last n a b = λ i. le-leb first n a i && le-leb n last b i

pub within-below : (first last n : ℕ) → n < first → leb first n && leb n last ≡ false
within-below first last n a = ap (λ (t : Bool). t && leb n last) (lt-leb first n a)

pub within-above : (first last n : ℕ) → last < n → leb first n && leb n last ≡ false
within-above first last n a = and_no (leb first n) (leb n last) (lt-leb n last a)

pub above_outside : (x : Span) (n : ℕ) → is_above x n ≡ true → within x n ≡ false
above_outside Closed n h = refl
above_outside (Open first last) n h = within-above first.0 last.0 n (ltb-true last.0 n h)

-- a number that lies in first..last
pub record Inside (first last n : ℕ) : Type 0 where
  pub low : first ≤ n
  pub high : n ≤ last

pub inside : (first last n : ℕ) → leb first n && leb n last ≡ true → Inside first last n
inside first last n w =
    let both = and_both (leb first n) (leb n last) w in
    record { low = leb-true first n both.0; high = leb-true n last both.1 }

-- a span of 1 to 64 numbers, as soundness has it
abbrev pub Narrow : Span → Type 0
Narrow Closed = Unit {0}
Narrow (Open first last) = (first.0 ≤ last.0) × (last.0 ≤ first.0 + 63)

-- ---- reading
pub at-inside : (s : Source) (n : ℕ) → within s.span n ≡ true → record_at s n ≡ raw_at s.names n
unfolding record_at
at-inside s n h = rw h

pub at_outside : (s : Source) (n : ℕ) → within s.span n ≡ false → record_at s n ≡ blank_record
unfolding record_at
at_outside s n h = rw h

-- what holds of what stands in the place of a number inside, and of a blank record outside, holds of its record
pub at_elim {κ} : (P : Record → Type κ) (s : Source) (n : ℕ) → (within s.span n ≡ true → P (raw_at s.names n)) → (within s.span n ≡ false → P blank_record)
    → P (record_at s n)
unfolding record_at
at_elim P s n f g = by_cond P (within s.span n) f g

-- a record depends on first and last only in whether its number lies there
pub same-within : (s : Source) (x : Span) (n : ℕ) → within x n ≡ within s.span n → record_at (with_span s x) n ≡ record_at s n
unfolding record_at
same-within s x n h = rw h

-- ---- places: in a window of 64 numbers no two stand at one place
pub place_in : (n : ℕ) → place n < 64
place_in n = omega arith

pub raw_same : (names : List Record) (n : ℕ) (r : Record) → length names ≡ 64 → raw_at (set names (place n) r) n ≡ r
raw_same names n r h = get_or-set_same names (place n) r no_record (omega arith)

pub raw-other : (names : List Record) (n m : ℕ) (r : Record) → place m ≢ place n → raw_at (set names (place n) r) m ≡ raw_at names m
raw-other names n m r d = get_or-set_other names (place n) (place m) r no_record d

pub apart : (x : Span) (n m : ℕ) → Narrow x → within x n ≡ true → within x m ≡ true → m ≢ n → place m ≢ place n
apart Closed n m h v w d e = clash' v
apart (Open first last) n m h v w d e =
    let a = inside first.0 last.0 n v in
    let b = inside first.0 last.0 m w in
    d (omega (arith, h.1, a.low, a.high, b.low, b.high))

-- ---- storing
pub read_same : (s : Source) (n : ℕ) (r : Record) → within s.span n ≡ true → length s.names ≡ 64 → record_at (with_record s n r) n ≡ r
read_same s n r w h = at-inside (with_record s n r) n w ∙ raw_same s.names n r h

pub read_other : (s : Source) (n : ℕ) (r : Record) (j : ℕ) → Narrow s.span → within s.span n ≡ true → eqb j n ≡ false → record_at (with_record s n r) j ≡ record_at s j
read_other s n r j o w d =
    by_test (within s.span j)
    (λ v. at-inside (with_record s n r) j v ∙ raw-other s.names n j r (apart s.span n j o w v (eqb-false j n d)) ∙ sym (at-inside s j v))
    (λ v. at_outside (with_record s n r) j v ∙ sym (at_outside s j v))

-- after a store, a record is the one stored, at its number, or as it was
pub store_elim {κ} : (P : Record → Type κ) (s : Source) (n : ℕ) (r : Record) (j : ℕ) → Narrow s.span → within s.span n ≡ true → length s.names ≡ 64
    → (j ≡ n → P r) → P (record_at s j) → P (record_at (with_record s n r) j)
store_elim P s n r j o w h f g =
    by_test (eqb j n)
    (λ e. let same : j ≡ n = eqb-true j n e in subst (λ (i : ℕ). P (record_at (with_record s n r) i)) (sym same) (rw (read_same s n r w h) (f same)))
    (λ e. rw (read_other s n r j o w e) g)

pub stored_length : (s : Source) (n : ℕ) (r : Record) → length (with_record s n r).names ≡ length s.names
stored_length s n r = length-set s.names (place n) r
