-- What reads or tests n things of w bytes each, one after the other.
use mathlib.Core.Path.{◌≡◌, refl, sym, ap, subst, ◌∙◌}
use Prim.Native.Nat.{ℕ, zero, suc, ◌+◌, ◌*◌, ◌-◌, ◌≤◌, ◌<◌}
use native.Mathlib.Nat.{mul-le-mul_right, zero-mul, suc-mul, sub-zero}
use native.Mathlib.Numerals.{add-one}
use native.Mathlib.Omega.{arith}
use mathlib.Core.Bool.{Bool, ◌&&◌}
use mathlib.Core.List.{List, [], ◌∷◌, ◌++◌, append-nil}
use lib.ListN.{length, drop, get_or, drop_of_length-le, set, replicate}
use lib.Seq.{drop-cons}
use denote.Param.Members.{Mut}
use Rattle.std.specs.Fn.{Called}
use Rattle.std.specs.List.{list_all, range_with_len}
use Rattle.std.specs.Array.{IsFromFnResultFrom, IsFromFnResult}
use Rattle.message.proofs.SectionLaws.{fill_next}
use Rattle.lent_fields.specs.Fields.{many, all_pass}

-- room for n of them is room for each
pub one-of : (w n i at : ℕ) {long : ℕ} → at + n * w ≤ long → i < n → at + i * w + w ≤ long
one-of w n i at r h =
    let m : (i + 1) * w ≤ n * w = mul-le-mul_right w (omega arith) in
    let e : (i + 1) * w ≡ i * w + w = rw (add-one, suc-mul) in
    omega (arith, r)

-- each of n numbers from i on is the number of a place
pub range-passes : (t : List ℕ → ℕ → Bool) (w at : ℕ) (s : List ℕ) (i n : ℕ) → list_all (λ m. t s (at + m * w)) (range_with_len i n) ≡ all_pass t w n s (at + i * w)
unfolding all_pass
range-passes t w at s i zero = refl
range-passes t w at s i (suc n) =
    let m : (i + 1) * w ≡ i * w + w = rw (add-one, suc-mul) in
    let e : at + (i + 1) * w ≡ at + i * w + w = omega (arith, m) in
    ap (λ (b : Bool). t s (at + i * w) && b) (range-passes t w at s (i + 1) n ∙ ap (all_pass t w n s) e)

pub all-range : (t : List ℕ → ℕ → Bool) (w at : ℕ) (s : List ℕ) (n : ℕ) → list_all (λ m. t s (at + m * w)) (range_with_len 0 (n - 0)) ≡ all_pass t w n s at
all-range t w at s n =
    let e : at + 0 * w ≡ at = rw zero-mul (omega arith) in
    let l : n - 0 ≡ n = omega arith in
    ap (λ m. list_all (λ m. t s (at + m * w)) (range_with_len 0 m)) l ∙ range-passes t w at s 0 n ∙ ap (all_pass t w n s) e

-- an array that is made of calls, each of which reads the thing at its number's place
module _ {F B : Type 0} {g : Mut F (ℕ × Unit {0}) B} (f : List ℕ → ℕ → B) (w at : ℕ) (s : List ℕ) {c : F}
    (k : (i : ℕ) (y : B) (q : F) → Called g c (i, tt) y q → (q ≡ c) × (y ≡ f s (at + i * w))) where
  made-from : (ys : List B) (i n : ℕ) → i + n ≡ length ys → IsFromFnResultFrom g c ys i n → drop i ys ≡ many f w n s (at + i * w)
  unfolding many
  made-from ys i zero e r = let h : length ys ≤ i = omega arith in drop_of_length-le ys h
  made-from ys i (suc n) e r =
      let h = k i r.1 r.0 r.3 in
      let m : (i + 1) * w ≡ i * w + w = rw (add-one, suc-mul) in
      let p : at + (i + 1) * w ≡ at + i * w + w = omega (arith, m) in
      let o : suc i ≡ i + 1 = omega arith in
      let rest = made-from ys (i + 1) n (omega arith) (subst (λ q. IsFromFnResultFrom g q ys (i + 1) n) h.0 r.4) in
      drop-cons ys i r.1 (omega arith)
      ∙ (λ j. (r.2.0 ∙ h.1) j ∷ (ap (λ x. drop x ys) o ∙ rest ∙ ap (many f w n s) p) j)

  pub made-many : (ys : List B) (n : ℕ) → IsFromFnResult g c ys n → ys ≡ many f w n s at
  made-many ys n r =
      let l : 0 + n ≡ length ys = omega (arith, r.long) in
      let e : at + 0 * w ≡ at = rw zero-mul (omega arith) in
      made-from ys 0 n l r.each ∙ ap (many f w n s) e

-- ---- a loop that reads n things of w bytes each into an array
module _ {A : Type 0} (f : List ℕ → ℕ → A) (w : ℕ) where
  -- one more at the end
  many_more : (n : ℕ) (s : List ℕ) (k : ℕ) → many f w (suc n) s k ≡ many f w n s k ++ (f s (k + n * w) ∷ [])
  unfolding many
  many_more zero s k =
      let e : k + zero * w ≡ k = rw zero-mul (omega arith) in
      ap (λ (m : ℕ). f s m ∷ []) (sym e)
  many_more (suc n) s k =
      let e : k + w + n * w ≡ k + suc n * w = rw suc-mul (omega arith) in
      ap (λ (l : List A). f s k ∷ l) (many_more n s (k + w))
      ∙ ap (λ (m : ℕ). f s k ∷ (many f w n s (k + w) ++ (f s m ∷ []))) e

  length-many : (n : ℕ) (s : List ℕ) (k : ℕ) → length (many f w n s k) ≡ n
  unfolding many
  length-many zero s k = refl
  length-many (suc n) s k = ap suc (length-many n s (k + w))

-- the first i of n places are filled from place `at` on, the others are d
pub record ReadSoFar {A : Type 0} (f : List ℕ → ℕ → A) (w n : ℕ) (d : A) (s : List ℕ) (at : ℕ) (es : List A) (i : ℕ) : Type 0 where
  pub within : i ≤ n
  pub filled : es ≡ many f w i s at ++ replicate (n - i) d

-- at first each place is blank
pub read_none : {A : Type 0} {f : List ℕ → ℕ → A} {w n : ℕ} {s : List ℕ} {at : ℕ} (d : A) → ReadSoFar f w n d s at (replicate n d) 0
unfolding many
read_none {n = n} d =
    let e : n ≡ n - 0 = omega arith in
    record { within = omega arith; filled = ap (λ m. replicate m d) e }

-- or each place has the first one, so one place is filled
pub read_first : {A : Type 0} {f : List ℕ → ℕ → A} {w n : ℕ} {s : List ℕ} {at : ℕ} {x : A} → x ≡ f s at → 0 < n
    → ReadSoFar f w n (f s at) s at (replicate n x) 1
unfolding many
read_first {n = zero} e h = absurd (omega arith)
read_first {f = f} {n = suc n} {s} {at} {x} e h =
    let o : suc n - 1 ≡ n = omega arith in
    record { within = omega arith; filled = (λ j. e j ∷ replicate n (e j)) ∙ ap (λ m. f s at ∷ replicate m (f s at)) (sym o) }

module _ {A : Type 0} {f : List ℕ → ℕ → A} {w n : ℕ} {d : A} {s : List ℕ} {at : ℕ} {es : List A} {i : ℕ} (l : ReadSoFar f w n d s at es i) where
  pub read_more : {x : A} → i < n → x ≡ f s (at + i * w) → ReadSoFar f w n d s at (set es i x) (i + 1)
  read_more {x} h e =
      let y : A = f s (at + i * w) in
      let m : many f w (i + 1) s at ≡ many f w i s at ++ (y ∷ []) = rw add-one (many_more f w i s at) in
      record {
        within = omega arith;
        filled =
            (λ j. set (l.filled j) i (e j))
            ∙ fill_next (many f w i s at) n i d y (length-many f w i s at) h
            ∙ ap (λ (b : List A). b ++ replicate (n - (i + 1)) d) (sym m);
      }

  pub read_whole : n ≤ i → es ≡ many f w n s at
  read_whole h =
      let e : i ≡ n = omega (arith, l.within) in
      let none_left : n - i ≡ 0 = omega arith in
      l.filled ∙ (λ j. many f w (e j) s at ++ replicate (none_left j) d) ∙ append-nil (many f w n s at)
