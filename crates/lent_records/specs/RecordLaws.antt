-- Both laws of a record's bytes, and of a source's 64: what is written reads back, and what passes the test is written as it was.
use mathlib.Core.Path.{◌≡◌, refl, sym, ◌∙◌}
use Prim.Native.Nat.{ℕ, zero, suc, ◌<◌}
use native.Mathlib.Omega.{arith}
use mathlib.Core.Bool.{true, ◌&&◌, and-true}
use mathlib.Core.List.{List}
use lib.Dec.{eqb}
use borrow.Author.Tests.{eqb-true, ne_eqb, lt-leb}
use Rattle.message.proofs.QuestionLaws.{and_both}
use Rattle.message.specs.Section.{flat}
use Rattle.end.specs.declared.Slot.{Slot}
use Rattle.end.specs.declared.Slot.TheVariants.{Empty, Held, Waiting}
use Rattle.end.specs.Parts.{Unset, Soon, No, Due}
use Rattle.end.specs.declared.Record.{Record}
use Rattle.lent_fields.specs.Fields.{many, all_pass, Two, free}
use Rattle.lent_fields.specs.Form.{Codec}
use Rattle.lent_fields.proofs.Codec.{number_codec, bytes_codec, both_codec, beside, retest, struct_codec, enum_codec, refit, array_codec}
use Rattle.lent_fields.proofs.Options.{one-zero, two-zero}
use Rattle.lent_records.specs.declared.Five.{Five}
use Rattle.lent_records.specs.Bytes.{five, five_of, slot_of, is_slot, five_bytes, five_from, FiveFit, part_bytes, record_bytes, record_from, record_test, RecordFits, RecordsFit}

-- ---- a slot and its five numbers
slot_back : (s : Slot) → slot_of (five_of s) ≡ s
slot_back Empty = refl
slot_back (Held No) = refl
slot_back (Held (Due due who)) = refl
slot_back (Waiting q Unset) = refl
slot_back (Waiting q (Soon due)) = refl

slot_tested : (s : Slot) → is_slot (five_of s) ≡ true
slot_tested Empty = refl
slot_tested (Held No) = refl
slot_tested (Held (Due due who)) = refl
slot_tested (Waiting q Unset) = refl
slot_tested (Waiting q (Soon due)) = refl

four-zero : (small a b c : ℕ) → (eqb small 0 && eqb a 0 && eqb b 0 && eqb c 0) ≡ true → ((small ≡ 0) × (a ≡ 0)) × ((b ≡ 0) × (c ≡ 0))
four-zero small a b c h =
    let x = and_both (eqb small 0 && eqb a 0 && eqb b 0) (eqb c 0) h in
    let y = and_both (eqb small 0 && eqb a 0) (eqb b 0) x.0 in
    (two-zero small a y.0, (one-zero b y.1, one-zero c x.1))

slot_forth : (tag small a b c : ℕ) → is_slot (five tag small a b c) ≡ true → five_of (slot_of (five tag small a b c)) ≡ five tag small a b c
slot_forth zero small a b c h =
    let z = four-zero small a b c h in
    λ i. five 0 (sym z.0.0 i) (sym z.0.1 i) (sym z.1.0 i) (sym z.1.1 i)
slot_forth (suc zero) small a b c h =
    let z = four-zero small a b c h in
    λ i. five 1 (sym z.0.0 i) (sym z.0.1 i) (sym z.1.0 i) (sym z.1.1 i)
slot_forth (suc (suc zero)) small a b c h =
    let z = two-zero b c h in
    λ i. five 2 small a (sym z.0 i) (sym z.1 i)
slot_forth (suc (suc (suc zero))) small a b c h = λ i. five 3 small a b (sym (one-zero c h) i)
slot_forth (suc (suc (suc (suc zero)))) small a b c h = refl
slot_forth (suc (suc (suc (suc (suc n))))) small a b c h =
    let tag : ℕ = suc (suc (suc (suc (suc n)))) in
    let one : 1 < tag = omega arith in
    let two : tag ≡ 2 → ⊥ = λ e. absurd (omega arith) in
    let three : tag ≡ 3 → ⊥ = λ e. absurd (omega arith) in
    let no : is_slot (five tag small a b c) ≡ eqb tag 4 = rw (lt-leb tag 1 one, ne_eqb tag 2 two, ne_eqb tag 3 three) in
    absurd (omega (arith, eqb-true (suc (suc (suc (suc (suc n))))) 4 (sym no ∙ h)))

-- ---- the bytes
abbrev Numbers : Type 0
Numbers = Two (Two (Two (Two ℕ ℕ) ℕ) ℕ) ℕ

abbrev numbers_of : Five → Numbers
numbers_of f = record {
  one = record { one = record { one = record { one = f.tag; two = f.small }; two = f.a }; two = f.b };
  two = f.c;
}

abbrev five_with : Numbers → Five
five_with x = five x.one.one.one.one x.one.one.one.two x.one.one.two x.one.two x.two

five_codec : Codec 26 five_bytes five_from free FiveFit
unfolding five_bytes
five_codec =
    refit
    (struct_codec (beside (beside (beside (beside (number_codec 1) 1) 8) 8) 8) numbers_of five_with (λ (f : Five). refl) (λ (x : Numbers). refl))
    FiveFit
    (λ (f : Five) (h : FiveFit f). ((((h.tag_fits, h.small-fits), h.a_fits), h.b_fits), h.c_fits))

slot_codec : Codec 26 (λ x. five_bytes (five_of x)) (λ s k. slot_of (five_from s k)) record_test (λ x. FiveFit (five_of x))
slot_codec =
    enum_codec five_codec five_of slot_of is_slot slot_back slot_tested
    (λ (f : Five). slot_forth f.tag f.small f.a f.b f.c)

abbrev Parts : Type 0
Parts = Two (Two Slot (List ℕ)) ℕ

abbrev parts_of : Record → Parts
parts_of r = record { one = record { one = r.slot; two = r.cue }; two = r.hush }

abbrev record_with : Parts → Record
record_with p = record { slot = p.one.one; cue = p.one.two; hush = p.two }

pub record_codec : Codec 58 record_bytes record_from record_test RecordFits
unfolding part_bytes
record_codec =
    refit
    (struct_codec
    (beside (retest (both_codec slot_codec (bytes_codec 24)) record_test (λ s k. and-true (record_test s k))) 8)
    parts_of record_with (λ (r : Record). refl) (λ (p : Parts). refl))
    RecordFits
    (λ (r : Record) (h : RecordFits r). ((h.five_fit, h.cue-long), h.hush_fits))

pub records_codec : Codec 3712 (flat record_bytes) (many record_from 58 64) (all_pass record_test 58 64) RecordsFit
records_codec = array_codec record_codec 64
