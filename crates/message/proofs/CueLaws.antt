-- A cue made of fields is 24 bytes and has those fields.
use mathlib.Core.Path.{◌≡◌, sym, ap, ◌∙◌}
use Prim.Native.Nat.{ℕ, ◌<◌}
use mathlib.Core.List.{List, ◌++◌}
use lib.ListN.{length, take, drop, replicate, length-append}
use lib.Seq.{take_at, drop_at, drop-drop}
use lib.IntN.{ℤ}
use mir.Syntax.{w16}
use mir.Val.{SFits}
use Rattle.numbers.specs.Number.{value, digits}
use Rattle.numbers.specs.Signed.{signed, unsigned}
use Rattle.numbers.proofs.NumberLaws.{length_digits, value-digits}
use Rattle.numbers.proofs.SignedLaws.{signed_back}
use Rattle.message.specs.Cue.{fields_of, cue_with}
use Rattle.message.specs.declared.CueFields.{CueFields}

-- the fields are what their types hold: four of 16 bits signed, one of 16 bits unsigned
pub record FieldsFit (f : CueFields) : Type 0 where
  pub focus : SFits w16 f.focus
  pub zoom : SFits w16 f.zoom
  pub sideways : SFits w16 f.sideways
  pub upright : SFits w16 f.upright
  pub lamp : f.lamp < 65536

-- what follows a number of two bytes, and one place further on
next-two : (n : ℕ) (t : List ℕ) → drop 2 (digits 2 n ++ t) ≡ t
next-two n t = drop_at (digits 2 n) t 2 (length_digits 2 n)

-- the two bytes at a place where a number was written
number-there : (n : ℕ) (s t : List ℕ) → s ≡ digits 2 n ++ t → take 2 s ≡ digits 2 n
number-there n s t e = ap (take 2) e ∙ take_at (digits 2 n) t 2 (length_digits 2 n)

pub cue_fields_back : (f : CueFields) → FieldsFit f → fields_of (cue_with f) ≡ f
unfolding cue_with
cue_fields_back f h =
    let t5 : List ℕ = replicate 14 0 in
    let t4 : List ℕ = digits 2 f.lamp ++ t5 in
    let t3 : List ℕ = digits 2 (unsigned f.upright) ++ t4 in
    let t2 : List ℕ = digits 2 (unsigned f.sideways) ++ t3 in
    let t1 : List ℕ = digits 2 (unsigned f.zoom) ++ t2 in
    let s : List ℕ = digits 2 (unsigned f.focus) ++ t1 in
    let d1 : drop 2 s ≡ t1 = next-two (unsigned f.focus) t1 in
    let d2 : drop 4 s ≡ t2 = sym (drop-drop 2 2 s) ∙ ap (drop 2) d1 ∙ next-two (unsigned f.zoom) t2 in
    let d3 : drop 6 s ≡ t3 = sym (drop-drop 2 4 s) ∙ ap (drop 2) d2 ∙ next-two (unsigned f.sideways) t3 in
    let d4 : drop 8 s ≡ t4 = sym (drop-drop 2 6 s) ∙ ap (drop 2) d3 ∙ next-two (unsigned f.upright) t4 in
    let signed-there : (z : ℤ) (r t : List ℕ) → SFits w16 z → r ≡ digits 2 (unsigned z) ++ t → signed (value (take 2 r)) ≡ z =
    λ z r t p e. ap (λ (l : List ℕ). signed (value l)) (number-there (unsigned z) r t e) ∙ signed_back z p in
    let focus = ap (λ (l : List ℕ). signed (value l)) (take_at (digits 2 (unsigned f.focus)) t1 2 (length_digits 2 _)) ∙ signed_back f.focus h.focus in
    let lamp = ap value (number-there f.lamp (drop 8 s) t5 d4) ∙ value-digits 2 f.lamp h.lamp in
    λ i. record {
      focus = focus i;
      zoom = signed-there f.zoom (drop 2 s) t2 h.zoom d1 i;
      sideways = signed-there f.sideways (drop 4 s) t3 h.sideways d2 i;
      upright = signed-there f.upright (drop 6 s) t4 h.upright d3 i;
      lamp = lamp i;
    }

pub cue-length : (f : CueFields) → length (cue_with f) ≡ 24
unfolding cue_with digits
cue-length f = simp length-append
