-- A name's record as 58 bytes: tag 1, small 1, a 8, b 8, c 8, the cue 24, the reply-quiet time 8.
--   tag 0  empty
--   tag 1  held
--   tag 2  held, and a reply waits: small is who asked, a its due time
--   tag 3  a request waits: small is its round, a its due time, b its quiet-until
--   tag 4  the same, and an express wait beside it: c its due time
-- What a tag has not is 0 and no tag is above 4, so that every record has one form, whatever bytes stand in the cue of one that is not held.
use Rattle.std.specs.Prelude.{◌≡◌, ℕ, ◌+◌, Bool, cond, ◌&&◌, List, ◌++◌, length, replicate, eqb, leb}
use Rattle.numbers.specs.Number.{digits}
use Rattle.message.specs.Entry.{as_host}
use Rattle.message.proofs.SectionLaws.{All}
use Rattle.end.specs.declared.Slot.{Slot}
use Rattle.end.specs.declared.Slot.TheVariants.{Empty, Held, Waiting}
use Rattle.end.specs.Parts.{Express, Unset, Soon, Reply, No, Due}
use Rattle.end.specs.declared.Request.{Request}
use Rattle.end.specs.declared.Record.{Record}
use Rattle.lent_fields.specs.Fields.{number, part, Below, Long}
use Rattle.lent_records.specs.declared.Five.{Five}

-- ---- a slot as five numbers
abbrev pub five : ℕ → ℕ → ℕ → ℕ → ℕ → Five
five tag small a b c = record { tag = tag; small = small; a = a; b = b; c = c }

abbrev pub five_held : Reply → Five
five_held No = five 1 0 0 0 0
five_held (Due due who) = five 2 who.0 due 0 0

abbrev pub five_waiting : Request → Express → Five
five_waiting q Unset = five 3 q.round q.due q.quiet 0
five_waiting q (Soon due) = five 4 q.round q.due q.quiet due

abbrev pub five_of : Slot → Five
five_of Empty = five 0 0 0 0 0
five_of (Held reply) = five_held reply
five_of (Waiting q x) = five_waiting q x

abbrev pub request_of : Five → Request
request_of f = record { round = f.small; due = f.a; quiet = f.b }

abbrev pub slot_of : Five → Slot
slot_of f =
    cond (eqb f.tag 0) Empty
    (cond (eqb f.tag 1) (Held No)
    (cond (eqb f.tag 2) (Held (Due f.a (as_host f.small)))
    (cond (eqb f.tag 3) (Waiting (request_of f) Unset) (Waiting (request_of f) (Soon f.c)))))

-- "What a tag has not is 0"
abbrev pub is_slot : Five → Bool
is_slot f =
    cond (leb f.tag 1) (eqb f.small 0 && eqb f.a 0 && eqb f.b 0 && eqb f.c 0)
    (cond (eqb f.tag 2) (eqb f.b 0 && eqb f.c 0)
    (cond (eqb f.tag 3) (eqb f.c 0)
    (eqb f.tag 4)))

-- ---- the bytes, and what is read from place k
abbrev pub record_width : ℕ
record_width = 58

unfoldable pub five_bytes : Five → List ℕ
five_bytes f = (((digits 1 f.tag ++ digits 1 f.small) ++ digits 8 f.a) ++ digits 8 f.b) ++ digits 8 f.c

abbrev pub five_from : List ℕ → ℕ → Five
five_from s k = five (number 1 s k) (number 1 s (k + 1)) (number 8 s (k + 2)) (number 8 s (k + 10)) (number 8 s (k + 18))

unfoldable pub part_bytes : Five → List ℕ → ℕ → List ℕ
part_bytes f cue hush = (five_bytes f ++ cue) ++ digits 8 hush

abbrev pub record_bytes : Record → List ℕ
record_bytes r = part_bytes (five_of r.slot) r.cue r.hush

abbrev pub record_from : List ℕ → ℕ → Record
record_from s k = record { slot = slot_of (five_from s k); cue = part 24 s (k + 26); hush = number 8 s (k + 50) }

abbrev pub record_test : List ℕ → ℕ → Bool
record_test s k = is_slot (five_from s k)

abbrev pub blank : Record
blank = record { slot = Empty; cue = replicate 24 0; hush = 0 }

-- ---- what a typed value has: its numbers fit their bytes, and its cue has 24
pub record FiveFit (f : Five) : Type 0 where
  pub tag_fits : Below 1 f.tag
  pub small-fits : Below 1 f.small
  pub a_fits : Below 8 f.a
  pub b_fits : Below 8 f.b
  pub c_fits : Below 8 f.c

pub record PartsFit (f : Five) (cue : List ℕ) (hush : ℕ) : Type 0 where
  pub five_fit : FiveFit f
  pub cue-long : Long 24 cue
  pub hush_fits : Below 8 hush

abbrev pub RecordFits : Record → Type 0
RecordFits r = PartsFit (five_of r.slot) r.cue r.hush

-- of the 64 records of a source
abbrev pub RecordsFit : List Record → Type 0
RecordsFit l = (length l ≡ 64) × All RecordFits l
