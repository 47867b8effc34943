-- Laws of bytes: eight are twice four, all written over all, and what holds of each entry that was written.
use mathlib.Core.Path.{◌≡◌, sym, ap, ◌∙◌, subst}
use Prim.Native.Nat.{ℕ, ◌+◌, ◌*◌, ◌-◌, ◌≤◌, ◌<◌}
use native.Mathlib.Omega.{arith}
use mathlib.Core.List.{List, [], ◌∷◌, ◌++◌, append-nil}
use lib.Seq.{take-add, length-take-le, drop-drop, take-length, take-suc, take_all}
use lib.ListN.{length, take, drop, get_or, length-drop, replicate, length-replicate, drop_of_length-le}
use native.Mathlib.Numerals.{add-one}
use Rattle.message.specs.Section.{flat}
use Rattle.message.proofs.SectionLaws.{All, none, some}
use Rattle.layout.specs.Puts.{Puts}
use Rattle.layout.proofs.PutLaws.{PutSoFar}
use Rattle.numbers.specs.Number.{value_after, value}
use Rattle.numbers.specs.Splice.{splice}
use Rattle.numbers.proofs.NumberLaws.{value_append}
use Rattle.numbers.proofs.SpliceLaws.{splice-start}

-- four bytes after a number
shift4 : (h : ℕ) (b : List ℕ) → length b ≡ 4 → value_after h b ≡ h * 4294967296 + value_after 0 b
unfolding value_after
shift4 h [] e = absurd (omega arith)
shift4 h (a ∷ []) e = absurd (omega arith)
shift4 h (a ∷ b ∷ []) e = absurd (omega arith)
shift4 h (a ∷ b ∷ c ∷ []) e = absurd (omega arith)
shift4 h (a ∷ b ∷ c ∷ d ∷ []) e = omega arith
shift4 h (a ∷ b ∷ c ∷ d ∷ x ∷ l) e = absurd (omega arith)

pub value8 : (s : List ℕ) (at hi lo : ℕ) → at + 8 ≤ length s → hi ≡ value (take 4 (drop at s)) → lo ≡ value (take 4 (drop (at + 4) s))
    → hi * 4294967296 + lo ≡ value (take 8 (drop at s))
value8 s at hi lo h p q =
    let t : List ℕ = drop at s in
    let l : 4 ≤ length (drop 4 t) = rw (length-drop, length-drop) (omega arith) in
    let both : value (take 8 t) ≡ value_after (value (take 4 t)) (take 4 (drop 4 t)) = ap value (take-add 4 4 t) ∙ value_append 0 (take 4 t) (take 4 (drop 4 t)) in
    let r : lo ≡ value (take 4 (drop 4 t)) = q ∙ ap (λ (x : List ℕ). value (take 4 x)) (sym (drop-drop 4 at s)) in
    (λ i. p i * 4294967296 + r i) ∙ sym (shift4 (value (take 4 t)) (take 4 (drop 4 t)) (length-take-le 4 (drop 4 t) l)) ∙ sym both

-- as many bytes as there are, written over all of them
pub all-over : (b out : List ℕ) → length b ≡ length out → splice 0 b out ≡ b
all-over b out e =
    let h : length out ≤ length b = omega arith in
    splice-start b out ∙ ap (λ (r : List ℕ). b ++ r) (drop_of_length-le out h) ∙ append-nil b

-- the n bytes at a place, written over n others
pub part-over : (n d : ℕ) (s : List ℕ) (at : ℕ) → at + n ≤ length s → splice 0 (take (at + n - at) (drop at s)) (replicate n d) ≡ take n (drop at s)
part-over n d s at h =
    let k : at + n - at ≡ n = omega arith in
    let l : n ≤ length (drop at s) = rw length-drop (omega arith) in
    rw k (all-over (take n (drop at s)) (replicate n d) (length-take-le n (drop at s) l ∙ sym (length-replicate n d)))

-- all entries of an array are written
pub puts-all : {A : Type 0} {g : A → List ℕ} {k : ℕ} {l : List A} {n at : ℕ} {start out : List ℕ} {i : ℕ} → PutSoFar g k l n at start out i → n ≤ i
    → length l ≡ n → Puts at (n * k) (flat g l) start out
puts-all {l = l} {n} {i = i} p h e =
    let same : i ≡ n = omega (arith, p.within) in
    let whole : take n l ≡ l = ap (λ (m : ℕ). take m l) (sym e) ∙ take-length l in
    rw (← whole) (rw same at p.so_far)

-- bytes of a known length, as the crate numbers writes them
pub put-part : {at : ℕ} (n : ℕ) {b start last : List ℕ} → length b ≡ n → at + n ≤ length start → last ≡ splice at b start → Puts at n b start last
put-part n l r w = record { long = l; room = r; written = w }

-- ---- what holds of each entry that was written
all_snoc : {A : Type 0} {P : A → Type 0} {a : List A} {x : A} → All P a → P x → All P (a ++ (x ∷ []))
all_snoc none p = some p none
all_snoc (some q r) p = some q (all_snoc r p)

-- the first n of the k entries are so
pub record FitSoFar {A : Type 0} (P : A → Type 0) (l : List A) (k n : ℕ) : Type 0 where
  pub long : length l ≡ k
  pub so_far : All P (take n l)

module _ {A : Type 0} {P : A → Type 0} {l : List A} {k n : ℕ} (f : FitSoFar P l k n) where
  pub fit_next : (d : A) → n < k → P (get_or l n d) → FitSoFar P l k (n + 1)
  fit_next d h p =
      let i : n < length l = omega (arith, f.long) in
      record { long = f.long; so_far = rw (add-one, take-suc l n d i) (all_snoc f.so_far p) }

  pub fit_all : k ≤ n → All P l
  fit_all h =
      let i : length l ≤ n = omega (arith, f.long) in
      subst (All P) (take_all n l i) f.so_far
