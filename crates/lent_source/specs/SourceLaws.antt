-- Both laws of a source's bytes, from those of its parts.
use mathlib.Core.Path.{◌≡◌, refl, sym}
use Prim.Native.Nat.{ℕ, zero, suc}
use native.Mathlib.Omega.{arith}
use mathlib.Core.Bool.{Bool, true, false, ◌&&◌}
use mathlib.Core.List.{List}
use lib.Dec.{eqb, leb}
use Rattle.std.specs.Int.{from_bool}
use borrow.Author.Tests.{leb-true}
use Rattle.end.specs.Parts.{Span, Closed, Open, Pair, NoPair, Kept, Heard, Never, At, Origin, NoOrigin, From}
use Rattle.end.specs.declared.Attempt.{Attempt}
use Rattle.end.specs.declared.Record.{Record}
use Rattle.end.specs.declared.Source.{Source}
use Rattle.lent_records.specs.RecordLaws.{records_codec}
use Rattle.lent_fields.specs.Fields.{many, all_pass, Two, two, three, four}
use Rattle.lent_fields.specs.Form.{Codec}
use Rattle.lent_fields.proofs.Codec.{number_codec, both_codec, beside, struct_codec, enum_codec, refit, array_codec}
use Rattle.lent_fields.proofs.Options.{no_option, one-zero, two-zero, three-zero}
use Rattle.lent_source.specs.Source.{three_bytes, span_to, span_of, is_span, span_from, span_test, span_bytes, SpanFits}
use Rattle.lent_source.specs.Source.{four_bytes, pair_to, pair_of, is_pair, pair_from, pair_test, pair_bytes, PairFits}
use Rattle.lent_source.specs.Source.{times_bytes, heard_to, heard_of, heard_from, heard_test, heard_bytes, HeardFits}
use Rattle.lent_source.specs.Source.{one_bytes, origin_to, origin_of, is_origin, origin_from, origin_test, origin_bytes, OriginFits}
use Rattle.lent_source.specs.Source.{bit, attempt_with, attempt_from, attempt_test, attempt_bytes, AttemptFits, attempts_bytes, AttemptsFit}
use Rattle.lent_source.specs.Source.{front_bytes, source_from, source_test, source_bytes, SourceFits}

abbrev Three : Type 0
Three = Two (Two ℕ ℕ) ℕ

abbrev Four : Type 0
Four = Two Three ℕ

-- ---- the span
span_back : (x : Span) → span_of (span_to x).one.one (span_to x).one.two (span_to x).two ≡ x
span_back Closed = refl
span_back (Open first last) = refl

span_tested : (x : Span) → is_span (span_to x).one.one (span_to x).one.two (span_to x).two ≡ true
span_tested Closed = refl
span_tested (Open first last) = refl

span_forth : (tag a b : ℕ) → is_span tag a b ≡ true → span_to (span_of tag a b) ≡ three tag a b
span_forth zero a b h =
    let z = two-zero a b h in
    λ i. three 0 (sym z.0 i) (sym z.1 i)
span_forth (suc zero) a b h = refl
span_forth (suc (suc n)) a b h = absurd (no_option n (eqb a 0 && eqb b 0) h)

pub span_codec : Codec 5 span_bytes span_from span_test SpanFits
unfolding three_bytes
span_codec =
    enum_codec (both_codec (both_codec (number_codec 1) (number_codec 2)) (number_codec 2)) span_to
    (λ (x : Three). span_of x.one.one x.one.two x.two) (λ (x : Three). is_span x.one.one x.one.two x.two)
    span_back span_tested (λ (x : Three). span_forth x.one.one x.one.two x.two)

-- ---- the pair
pair_back : (x : Pair) → pair_of (pair_to x).one.one.one (pair_to x).one.one.two (pair_to x).one.two (pair_to x).two ≡ x
pair_back NoPair = refl
pair_back (Kept a b n) = refl

pair-tested : (x : Pair) → is_pair (pair_to x).one.one.one (pair_to x).one.one.two (pair_to x).one.two (pair_to x).two ≡ true
pair-tested NoPair = refl
pair-tested (Kept a b n) = refl

pair_forth : (tag a b n : ℕ) → is_pair tag a b n ≡ true → pair_to (pair_of tag a b n) ≡ four tag a b n
pair_forth zero a b n h =
    let z = three-zero a b n h in
    λ i. four 0 (sym z.0 i) (sym z.1 i) (sym z.2 i)
pair_forth (suc zero) a b n h = refl
pair_forth (suc (suc m)) a b n h = absurd (no_option m (eqb a 0 && eqb b 0 && eqb n 0) h)

pub pair_codec : Codec 5 pair_bytes pair_from pair_test PairFits
unfolding four_bytes
pair_codec =
    enum_codec (both_codec (both_codec (both_codec (number_codec 1) (number_codec 1)) (number_codec 1)) (number_codec 2)) pair_to
    (λ (x : Four). pair_of x.one.one.one x.one.one.two x.one.two x.two)
    (λ (x : Four). is_pair x.one.one.one x.one.one.two x.one.two x.two)
    pair_back pair-tested (λ (x : Four). pair_forth x.one.one.one x.one.one.two x.one.two x.two)

-- ---- what was heard
heard_back : (x : Heard) → heard_of (heard_to x).one.one.one (heard_to x).one.one.two (heard_to x).one.two (heard_to x).two ≡ x
heard_back Never = refl
heard_back (At stamp when hosts) = refl

heard-tested : (x : Heard) → is_pair (heard_to x).one.one.one (heard_to x).one.one.two (heard_to x).one.two (heard_to x).two ≡ true
heard-tested Never = refl
heard-tested (At stamp when hosts) = refl

heard_forth : (tag a b n : ℕ) → is_pair tag a b n ≡ true → heard_to (heard_of tag a b n) ≡ four tag a b n
heard_forth zero a b n h =
    let z = three-zero a b n h in
    λ i. four 0 (sym z.0 i) (sym z.1 i) (sym z.2 i)
heard_forth (suc zero) a b n h = refl
heard_forth (suc (suc m)) a b n h = absurd (no_option m (eqb a 0 && eqb b 0 && eqb n 0) h)

pub heard_codec : Codec 18 heard_bytes heard_from heard_test HeardFits
unfolding times_bytes
heard_codec =
    enum_codec (both_codec (both_codec (both_codec (number_codec 1) (number_codec 8)) (number_codec 8)) (number_codec 1)) heard_to
    (λ (x : Four). heard_of x.one.one.one x.one.one.two x.one.two x.two)
    (λ (x : Four). is_pair x.one.one.one x.one.one.two x.one.two x.two)
    heard_back heard-tested (λ (x : Four). heard_forth x.one.one.one x.one.one.two x.one.two x.two)

-- ---- the first original
origin_back : (x : Origin) → origin_of (origin_to x).one (origin_to x).two ≡ x
origin_back NoOrigin = refl
origin_back (From n) = refl

origin-tested : (x : Origin) → is_origin (origin_to x).one (origin_to x).two ≡ true
origin-tested NoOrigin = refl
origin-tested (From n) = refl

origin_forth : (tag n : ℕ) → is_origin tag n ≡ true → origin_to (origin_of tag n) ≡ two tag n
origin_forth zero n h = λ i. two 0 (sym (one-zero n h) i)
origin_forth (suc zero) n h = refl
origin_forth (suc (suc m)) n h = absurd (no_option m (eqb n 0) h)

pub origin_codec : Codec 3 origin_bytes origin_from origin_test OriginFits
unfolding one_bytes
origin_codec =
    enum_codec (both_codec (number_codec 1) (number_codec 2)) origin_to
    (λ (x : Two ℕ ℕ). origin_of x.one x.two) (λ (x : Two ℕ ℕ). is_origin x.one x.two)
    origin_back origin-tested (λ (x : Two ℕ ℕ). origin_forth x.one x.two)

-- ---- the attempts
abbrev attempt_to : Attempt → Two ℕ ℕ
attempt_to x = two x.tried (bit x.late)

bit_back : (b : Bool) → eqb (bit b) 1 ≡ b
bit_back true = refl
bit_back false = refl

pub from-bit : (b : Bool) → from_bool b ≡ bit b
from-bit true = refl
from-bit false = refl

bit-tested : (b : Bool) → leb (bit b) 1 ≡ true
bit-tested true = refl
bit-tested false = refl

bit_forth : (n : ℕ) → leb n 1 ≡ true → bit (eqb n 1) ≡ n
bit_forth zero h = refl
bit_forth (suc zero) h = refl
bit_forth (suc (suc n)) h = absurd (omega (arith, leb-true (suc (suc n)) 1 h))

pub attempt_codec : Codec 2 attempt_bytes attempt_from attempt_test AttemptFits
attempt_codec =
    enum_codec (both_codec (number_codec 1) (number_codec 1)) attempt_to attempt_with (λ (x : Two ℕ ℕ). leb x.two 1)
    (λ (x : Attempt). λ i. record { tried = x.tried; late = bit_back x.late i })
    (λ (x : Attempt). bit-tested x.late)
    (λ (x : Two ℕ ℕ) (h : leb x.two 1 ≡ true). λ i. two x.one (bit_forth x.two h i))

attempts_codec : Codec 128 attempts_bytes (many attempt_from 2 64) (all_pass attempt_test 2 64) AttemptsFit
attempts_codec = array_codec attempt_codec 64

-- ---- the source
abbrev Front : Type 0
Front = Two (Two (Two Span ℕ) Pair) ℕ

abbrev Parts : Type 0
Parts = Two (Two (Two (Two Front Heard) Origin) (List Attempt)) (List Record)

abbrev parts_of : Source → Parts
parts_of x = record {
  one = record {
    one = record {
      one = record { one = record { one = record { one = record { one = x.span; two = x.missed }; two = x.pair }; two = x.distance }; two = x.heard };
      two = x.origin;
    };
    two = x.attempts;
  };
  two = x.names;
}

abbrev source_with : Parts → Source
source_with p = record {
  span = p.one.one.one.one.one.one.one;
  missed = p.one.one.one.one.one.one.two;
  pair = p.one.one.one.one.one.two;
  distance = p.one.one.one.one.two;
  heard = p.one.one.one.two;
  names = p.two;
  origin = p.one.one.two;
  attempts = p.one.two;
}

pub source_codec : Codec 3883 source_bytes source_from source_test SourceFits
unfolding source_bytes front_bytes source_test
source_codec =
    refit
    (struct_codec
    (both_codec (both_codec (both_codec (both_codec (beside (both_codec (beside span_codec 4) pair_codec) 8) heard_codec) origin_codec) attempts_codec) records_codec)
    parts_of source_with (λ (x : Source). refl) (λ (p : Parts). refl))
    SourceFits
    (λ (x : Source) (h : SourceFits x).
    let f = h.front_fits in
    (((((((f.span_fits, f.missed-fits), f.pair_fits), f.distance-fits), h.heard-fits), h.origin-fits), h.attempts_fit), h.records_fit))
