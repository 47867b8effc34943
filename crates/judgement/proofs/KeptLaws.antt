-- What is kept of a record: one element more of a buffer, and a piece taken byte by byte.
use mathlib.Core.Path.{◌≡◌, refl, sym, ap, ◌∙◌}
use mathlib.Core.Bool.{Bool, true, false, cond}
use mathlib.Core.List.{List, [], ◌∷◌}
use Prim.Native.Nat.{ℕ, zero, suc, ◌+◌, ◌≤◌, ◌<◌, min}
use native.Mathlib.Nat.{min-eq_left}
use native.Mathlib.Numerals.{add-one}
use native.Mathlib.Omega.{arith}
use lib.Dec.{ltb}
use lib.ListN.{length, take, drop, get_or, set, length-take, drop_of_length-le}
use lib.Seq.{take-suc-set, take_all, drop-cons}
use borrow.Author.Tests.{lt-ltb, le-ltb, eq-eqb, ne_eqb, ltb-true, ltb-false}
use Rattle.numbers.proofs.Cases.{by_order, by_flag}
use Rattle.record.specs.declared.Line.{Line}
use Rattle.judgement.specs.declared.Kept.{Kept}
use Rattle.judgement.specs.Pieces.{Standing, added, after_byte, after, closed, standing}

-- ---- a buffer of which the first n places are used
module _ {A : Type 0} (places : ℕ) (l : List A) (n : ℕ) (x : A) (size : length l ≡ places) where
  pub added_more : n < places → take (n + 1) (set l n x) ≡ added places (take n l) x
  added_more h =
      rw (lt-ltb (length (take n l)) places (omega (arith, length-take n l)))
      (ap (λ (k : ℕ). take k (set l n x)) (add-one n) ∙ take-suc-set l n x (omega arith))

  pub added_full : places ≤ n → take n l ≡ added places (take n l) x
  added_full h = rw (le-ltb (length (take n l)) places (omega (arith, length-take n l)))

pub first-bytes : {A : Type 0} (n : ℕ) (l : List A) → take (min n (length l)) l ≡ take n l
first-bytes n l =
    by_order (length l) n
    (λ h.
    let e : min n (length l) ≡ length l = omega arith in
    ap (λ (k : ℕ). take k l) e ∙ take_all (length l) l (omega arith) ∙ sym (take_all n l (omega arith)))
    (λ g. ap (λ (k : ℕ). take k l) (min-eq_left g))

-- ---- a piece, byte by byte: the bytes from `at` on are left
pub record FedOn (s : Standing) (piece : List ℕ) (kept : Kept) (at : ℕ) : Type 0 where
  pub leads : after (standing kept) (drop at piece) ≡ after s piece

pub none_fed : (piece : List ℕ) (kept : Kept) → FedOn (standing kept) piece kept 0
none_fed piece kept = record { leads = refl }

module _ {s : Standing} {piece : List ℕ} {kept : Kept} {at : ℕ} (f : FedOn s piece kept at) where
  pub byte_fed : {more : Kept} → at < length piece → standing more ≡ after_byte (standing kept) (get_or piece at 0) → FedOn s piece more (at + 1)
  unfolding after
  byte_fed h e = record {
    leads =
        ap (λ (x : Standing). after x (drop (at + 1) piece)) e
        ∙ sym (ap (after (standing kept)) (drop-cons piece at 0 h ∙ ap (λ (k : ℕ). get_or piece at 0 ∷ drop k piece) (sym (add-one at))))
        ∙ f.leads;
  }

  pub all_fed : length piece ≤ at → standing kept ≡ after s piece
  unfolding after
  all_fed h = sym (ap (after (standing kept)) (drop_of_length-le piece {i = at} h)) ∙ f.leads

-- ---- the end of a record
pub closed_none : (lines : List Line) (line : List ℕ) (len : ℕ) → len ≡ 0 → lines ≡ closed lines (take len line)
closed_none lines line len e = sym (ap (λ (k : ℕ). closed lines (take k line)) e)

pub closed_some : (lines more : List Line) (line : List ℕ) (len : ℕ) → (len ≡ 0 → ⊥) → 0 < length line → more ≡ closed lines (0 ∷ [])
    → more ≡ closed lines (take len line)
closed_some lines more line zero h k e = absurd (h refl)
closed_some lines more [] (suc n) h k e = absurd (omega arith)
closed_some lines more (b ∷ line) (suc n) h k e = e

-- more lines than are kept
pub counts-over : {A : Type 0} (most count : ℕ) (l : List A) → most < length l → ltb most count ≡ ltb most (length (take count l))
counts-over most count l h =
    by_flag (ltb most count)
    (λ t. let m = ltb-true most count t in t ∙ sym (lt-ltb most (length (take count l)) (omega (arith, length-take count l))))
    (λ f. let m = ltb-false most count f in f ∙ sym (le-ltb most (length (take count l)) (omega (arith, length-take count l))))
