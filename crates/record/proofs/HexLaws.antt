-- Hexadecimal digits: a byte from two of them, and a cue read pair by pair.
use mathlib.Core.Path.{◌≡◌, refl, sym, ap, ◌∙◌}
use mathlib.Core.Bool.{Bool, true, cond, ◌&&◌, and_assoc, and-true}
use mathlib.Core.List.{List, [], ◌∷◌, ◌++◌, append_assoc, append-nil}
use Prim.Native.Nat.{ℕ, suc, ◌+◌, ◌*◌, ◌≤◌, ◌<◌}
use native.Mathlib.Numerals.{add-one}
use native.Mathlib.Omega.{arith}
use lib.Dec.{leb}
use lib.ListN.{length, take, drop, get_or, set, drop_of_length-le}
use lib.Seq.{drop-cons, take-suc-set, take_all}
use borrow.Author.Tests.{leb-true, eq-eqb}
use Rattle.std.specs.Prelude.{None, Some}
use Rattle.message.specs.Cue.{cue_in}
use Rattle.decimal.proofs.DecimalLaws.{both}
use Rattle.record.specs.Line.{is_capital, is_hex, all_hex, hex_value, bytes_in, cue_word}

pub capital_range : (c : ℕ) → is_capital c ≡ true → (65 ≤ c) × (c ≤ 70)
capital_range c h = let p = both (leb 65 c) (leb c 70) h in (leb-true 65 c p.0, leb-true c 70 p.1)

-- ---- a cue read pair by pair: the first i bytes are made, and the digits from 2i on are left
pub record PairsRead (w cue : List ℕ) (ok : Bool) (i : ℕ) : Type 0 where
  pub within : i ≤ 24
  pub digits : length w ≡ 48
  pub bytes : length cue ≡ 24
  pub hex : (ok && all_hex (drop (i * 2) w)) ≡ all_hex w
  pub made : take i cue ++ bytes_in (drop (i * 2) w) ≡ bytes_in w

pub none_read : (w cue : List ℕ) → length w ≡ 48 → length cue ≡ 24 → PairsRead w cue true 0
none_read w cue l m = record { within = omega arith; digits = l; bytes = m; hex = refl; made = refl }

module _ {w cue : List ℕ} {ok : Bool} {i : ℕ} (p : PairsRead w cue ok i) where
  high : ℕ
  high = get_or w (i * 2) 0

  low : ℕ
  low = get_or w (i * 2 + 1) 0

  next : i < 24 → drop (i * 2) w ≡ high ∷ low ∷ drop ((i + 1) * 2) w
  unfolding high low
  next h =
      let e : suc (i * 2) ≡ i * 2 + 1 = omega arith in
      let f : suc (i * 2 + 1) ≡ (i + 1) * 2 = omega arith in
      drop-cons w (i * 2) 0 (omega (arith, p.digits))
      ∙ ap (λ (k : ℕ). get_or w (i * 2) 0 ∷ drop k w) e
      ∙ ap (λ (l : List ℕ). get_or w (i * 2) 0 ∷ l) (drop-cons w (i * 2 + 1) 0 (omega (arith, p.digits)))
      ∙ ap (λ (k : ℕ). get_or w (i * 2) 0 ∷ get_or w (i * 2 + 1) 0 ∷ drop k w) f

  pub pair_read_lem : (b : ℕ) (hh hl : Bool) → i < 24 → hh ≡ is_hex (get_or w (i * 2) 0) → hl ≡ is_hex (get_or w (i * 2 + 1) 0)
      → b ≡ hex_value (get_or w (i * 2) 0) * 16 + hex_value (get_or w (i * 2 + 1) 0) → length (set cue i b) ≡ 24
      → PairsRead w (set cue i b) (ok && (hh && hl)) (i + 1)
  unfolding high low all_hex bytes_in
  pair_read_lem b hh hl h eh el eb s =
      let rest = drop ((i + 1) * 2) w in
      record {
        within = omega arith;
        digits = p.digits;
        bytes = s;
        hex =
            and_assoc ok (hh && hl) (all_hex rest)
            ∙ ap (λ (t : Bool). ok && t) (and_assoc hh hl (all_hex rest) ∙ (λ k. eh k && (el k && all_hex rest)) ∙ sym (ap all_hex (next h)))
            ∙ p.hex;
        made =
            ap (λ (l : List ℕ). l ++ bytes_in rest) (ap (λ (k : ℕ). take k (set cue i b)) (add-one i) ∙ take-suc-set cue i b (omega (arith, p.bytes)))
            ∙ append_assoc (take i cue) (b ∷ []) (bytes_in rest)
            ∙ ap (λ (l : List ℕ). take i cue ++ l) (ap (λ (k : ℕ). k ∷ bytes_in rest) eb ∙ sym (ap bytes_in (next h)))
            ∙ p.made;
      }

  pub all_read : 24 ≤ i → (ok ≡ all_hex w) × (cue ≡ bytes_in w)
  unfolding all_hex bytes_in
  all_read h =
      let none : drop (i * 2) w ≡ [] = drop_of_length-le w {i = i * 2} (omega (arith, p.digits)) in (
        sym (and-true ok) ∙ sym (ap (λ (l : List ℕ). ok && all_hex l) none) ∙ p.hex,
        sym (take_all i cue (omega (arith, p.bytes))) ∙ sym (append-nil (take i cue)) ∙ sym (ap (λ (l : List ℕ). take i cue ++ bytes_in l) none) ∙ p.made,
      )

-- the word, once its digits are read: `fits` is the range's test
pub cue_read : (w cue : List ℕ) (ok fits : Bool) → length w ≡ 48 → ok ≡ all_hex w → cue ≡ bytes_in w → fits ≡ cue_in cue
    → cond (ok && fits) (Some cue) None ≡ cue_word w
unfolding cue_word
cue_read w cue ok fits l eo ec ef =
    (λ i. cond (eo i && (ef ∙ ap cue_in ec) i) (Some (ec i)) None) ∙ sym (simp (eq-eqb (length w) 48 l))
