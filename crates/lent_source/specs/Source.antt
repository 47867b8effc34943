-- A source as 3,883 bytes:
--   0 span: 0 closed, or 1, first 2, last 2                 (5)
--   5 missed 4
--   9 pair: 0 none, or 1, requester 1, sender 1, number 2   (5)
--   14 distance 8
--   22 heard: 0 never, or 1, stamp 8, when 8, hosts 1       (18)
--   40 origin: 0 none, or 1, number 2                       (3)
--   43 64 attempts: tried 1, late 1 (0 or 1)                (128)
--   171 64 records of 58 (the crate lent_records)           (3712)
-- What a tag has not is 0 and no tag is above 1, so that every source has one form.
use Rattle.std.specs.Prelude.{◌≡◌, ℕ, ◌+◌, Bool, true, false, cond, ◌&&◌, List, ◌++◌, length, eqb, leb}
use Rattle.numbers.specs.Number.{digits}
use Rattle.message.specs.Entry.{as_host, as_number}
use Rattle.message.specs.Section.{flat}
use Rattle.message.proofs.SectionLaws.{All}
use Rattle.end.specs.Parts.{Span, Closed, Open, Pair, NoPair, Kept, Heard, Never, At, Origin, NoOrigin, From}
use Rattle.end.specs.declared.Attempt.{Attempt}
use Rattle.end.specs.declared.Source.{Source}
use Rattle.lent_records.specs.Bytes.{record_width, record_from, record_test, record_bytes, RecordsFit}
use Rattle.lent_fields.specs.Fields.{number, many, all_pass, Two, Below, cat_bytes, BothFit, two, three, four, two_at, is_option}

-- ---- the span: tag, first, last
unfoldable pub three_bytes : Two (Two ℕ ℕ) ℕ → List ℕ
three_bytes x = cat_bytes (cat_bytes (digits 1) (digits 2)) (digits 2) x

abbrev pub ThreeFit : Two (Two ℕ ℕ) ℕ → Type 0
ThreeFit x = BothFit (BothFit (Below 1) (Below 2)) (Below 2) x

abbrev pub span_to : Span → Two (Two ℕ ℕ) ℕ
span_to Closed = three 0 0 0
span_to (Open first last) = three 1 first.0 last.0

abbrev pub span_of : ℕ → ℕ → ℕ → Span
span_of tag first last = cond (eqb tag 0) Closed (Open (as_number first) (as_number last))

abbrev pub is_span : ℕ → ℕ → ℕ → Bool
is_span tag first last = is_option tag (eqb first 0 && eqb last 0)

abbrev pub span_from : List ℕ → ℕ → Span
span_from s k = span_of (number 1 s k) (number 2 s (k + 1)) (number 2 s (k + 3))

abbrev pub span_test : List ℕ → ℕ → Bool
span_test s k = is_span (number 1 s k) (number 2 s (k + 1)) (number 2 s (k + 3))

abbrev pub span_bytes : Span → List ℕ
span_bytes x = three_bytes (span_to x)

abbrev pub SpanFits : Span → Type 0
SpanFits x = ThreeFit (span_to x)

-- ---- the pair: tag, requester, sender, number
unfoldable pub four_bytes : Two (Two (Two ℕ ℕ) ℕ) ℕ → List ℕ
four_bytes x = cat_bytes (cat_bytes (cat_bytes (digits 1) (digits 1)) (digits 1)) (digits 2) x

abbrev pub FourFit : Two (Two (Two ℕ ℕ) ℕ) ℕ → Type 0
FourFit x = BothFit (BothFit (BothFit (Below 1) (Below 1)) (Below 1)) (Below 2) x

abbrev pub pair_to : Pair → Two (Two (Two ℕ ℕ) ℕ) ℕ
pair_to NoPair = four 0 0 0 0
pair_to (Kept a b n) = four 1 a.0 b.0 n.0

abbrev pub pair_of : ℕ → ℕ → ℕ → ℕ → Pair
pair_of tag a b n = cond (eqb tag 0) NoPair (Kept (as_host a) (as_host b) (as_number n))

abbrev pub is_pair : ℕ → ℕ → ℕ → ℕ → Bool
is_pair tag a b n = is_option tag (eqb a 0 && eqb b 0 && eqb n 0)

abbrev pub pair_from : List ℕ → ℕ → Pair
pair_from s k = pair_of (number 1 s k) (number 1 s (k + 1)) (number 1 s (k + 2)) (number 2 s (k + 3))

abbrev pub pair_test : List ℕ → ℕ → Bool
pair_test s k = is_pair (number 1 s k) (number 1 s (k + 1)) (number 1 s (k + 2)) (number 2 s (k + 3))

abbrev pub pair_bytes : Pair → List ℕ
pair_bytes x = four_bytes (pair_to x)

abbrev pub PairFits : Pair → Type 0
PairFits x = FourFit (pair_to x)

-- ---- what was heard: tag, stamp, when, hosts
unfoldable pub times_bytes : Two (Two (Two ℕ ℕ) ℕ) ℕ → List ℕ
times_bytes x = cat_bytes (cat_bytes (cat_bytes (digits 1) (digits 8)) (digits 8)) (digits 1) x

abbrev pub TimesFit : Two (Two (Two ℕ ℕ) ℕ) ℕ → Type 0
TimesFit x = BothFit (BothFit (BothFit (Below 1) (Below 8)) (Below 8)) (Below 1) x

abbrev pub heard_to : Heard → Two (Two (Two ℕ ℕ) ℕ) ℕ
heard_to Never = four 0 0 0 0
heard_to (At stamp when hosts) = four 1 stamp when hosts

abbrev pub heard_of : ℕ → ℕ → ℕ → ℕ → Heard
heard_of tag stamp when hosts = cond (eqb tag 0) Never (At stamp when hosts)

abbrev pub heard_from : List ℕ → ℕ → Heard
heard_from s k = heard_of (number 1 s k) (number 8 s (k + 1)) (number 8 s (k + 9)) (number 1 s (k + 17))

abbrev pub heard_test : List ℕ → ℕ → Bool
heard_test s k = is_pair (number 1 s k) (number 8 s (k + 1)) (number 8 s (k + 9)) (number 1 s (k + 17))

abbrev pub heard_bytes : Heard → List ℕ
heard_bytes x = times_bytes (heard_to x)

abbrev pub HeardFits : Heard → Type 0
HeardFits x = TimesFit (heard_to x)

-- ---- the first original: tag, number
unfoldable pub one_bytes : Two ℕ ℕ → List ℕ
one_bytes x = cat_bytes (digits 1) (digits 2) x

abbrev pub OneFits : Two ℕ ℕ → Type 0
OneFits x = BothFit (Below 1) (Below 2) x

abbrev pub origin_to : Origin → Two ℕ ℕ
origin_to NoOrigin = two 0 0
origin_to (From n) = two 1 n.0

abbrev pub origin_of : ℕ → ℕ → Origin
origin_of tag n = cond (eqb tag 0) NoOrigin (From (as_number n))

abbrev pub is_origin : ℕ → ℕ → Bool
is_origin tag n = is_option tag (eqb n 0)

abbrev pub origin_from : List ℕ → ℕ → Origin
origin_from s k = origin_of (number 1 s k) (number 2 s (k + 1))

abbrev pub origin_test : List ℕ → ℕ → Bool
origin_test s k = is_origin (number 1 s k) (number 2 s (k + 1))

abbrev pub origin_bytes : Origin → List ℕ
origin_bytes x = one_bytes (origin_to x)

abbrev pub OriginFits : Origin → Type 0
OriginFits x = OneFits (origin_to x)

-- ---- an attempt: tried, late
abbrev pub bit : Bool → ℕ
bit true = 1
bit false = 0

abbrev pub attempt_with : Two ℕ ℕ → Attempt
attempt_with x = record { tried = x.one; late = eqb x.two 1 }

abbrev pub attempt_from : List ℕ → ℕ → Attempt
attempt_from s k = attempt_with (two_at 1 1 s k)

abbrev pub attempt_test : List ℕ → ℕ → Bool
attempt_test s k = leb (number 1 s (k + 1)) 1

abbrev pub attempt_bytes : Attempt → List ℕ
attempt_bytes x = digits 1 x.tried ++ digits 1 (bit x.late)

abbrev pub AttemptFits : Attempt → Type 0
AttemptFits x = BothFit (Below 1) (Below 1) (two x.tried (bit x.late))

abbrev pub attempts_bytes : List Attempt → List ℕ
attempts_bytes l = flat attempt_bytes l

abbrev pub AttemptsFit : List Attempt → Type 0
AttemptsFit l = (length l ≡ 64) × All AttemptFits l

-- ---- the source
abbrev pub source_width : ℕ
source_width = 3883

unfoldable pub front_bytes : Span → ℕ → Pair → ℕ → List ℕ
front_bytes span missed pair distance = ((span_bytes span ++ digits 4 missed) ++ pair_bytes pair) ++ digits 8 distance

pub record FrontFits (span : Span) (missed : ℕ) (pair : Pair) (distance : ℕ) : Type 0 where
  pub span_fits : SpanFits span
  pub missed-fits : Below 4 missed
  pub pair_fits : PairFits pair
  pub distance-fits : Below 8 distance

unfoldable pub source_bytes : Source → List ℕ
source_bytes x =
    (((front_bytes x.span x.missed x.pair x.distance ++ heard_bytes x.heard) ++ origin_bytes x.origin) ++ attempts_bytes x.attempts)
    ++ flat record_bytes x.names

pub record SourceFits (x : Source) : Type 0 where
  pub front_fits : FrontFits x.span x.missed x.pair x.distance
  pub heard-fits : HeardFits x.heard
  pub origin-fits : OriginFits x.origin
  pub attempts_fit : AttemptsFit x.attempts
  pub records_fit : RecordsFit x.names

abbrev pub source_from : List ℕ → ℕ → Source
source_from s k = record {
  span = span_from s k;
  missed = number 4 s (k + 5);
  pair = pair_from s (k + 9);
  distance = number 8 s (k + 14);
  heard = heard_from s (k + 22);
  names = many record_from record_width 64 s (k + 171);
  origin = origin_from s (k + 40);
  attempts = many attempt_from 2 64 s (k + 43);
}

unfoldable pub source_test : List ℕ → ℕ → Bool
source_test s k =
    span_test s k && pair_test s (k + 9) && heard_test s (k + 22) && origin_test s (k + 40) && all_pass attempt_test 2 64 s (k + 43) && all_pass record_test record_width 64 s (k + 171)
