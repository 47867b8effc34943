-- The messages in their places: how many there are, each of them, and one more.
use mathlib.Core.Path.{◌≡◌, refl, sym, ap, ◌∙◌}
use mathlib.Core.Logic.{⊎_elim}
use mathlib.Core.List.{List, [], ◌∷◌, ◌++◌}
use Prim.Native.Nat.{ℕ, zero, suc, ◌+◌, ◌*◌, ◌≤◌, ◌<◌, min}
use native.Mathlib.Nat.{eq-or-lt_of_le, min-le_right, min-eq_left}
use native.Mathlib.Numerals.{add-one}
use native.Mathlib.Omega.{arith}
use lib.ListN.{length, get_or, set, take, drop, length-append, length-drop, take-append-drop, get_or-append}
use lib.Seq.{take_at, drop_at, take-append-le, drop-append-le, get_or_at, get_or-set_same, get_or-set_other, length-take-le}
use Rattle.numbers.specs.Splice.{splice}
use Rattle.store.specs.Store.{room, message_in, first_messages}

pub length-first : (store lengths : List ℕ) (k : ℕ) → length (first_messages store lengths k) ≡ k
unfolding first_messages
length-first store lengths zero = refl
length-first store lengths (suc k) =
    length-append (first_messages store lengths k) (message_in store lengths k ∷ []) ∙ ap (λ (n : ℕ). n + 1) (length-first store lengths k) ∙ add-one k

-- the message with a number
pub first-at : (store lengths : List ℕ) (k n : ℕ) → n < k → get_or (first_messages store lengths k) n [] ≡ message_in store lengths n
unfolding first_messages
first-at store lengths zero n h = absurd (omega arith)
first-at store lengths (suc k) n h =
    let fs = first_messages store lengths k in
    let l : length fs ≡ k = length-first store lengths k in
    let p : n ≤ k = omega arith in
    ⊎_elim
    (λ (e : n ≡ k). get_or_at fs (message_in store lengths k) [] [] n (l ∙ sym e) ∙ ap (message_in store lengths) (sym e))
    (λ (b : n < k). get_or-append fs (message_in store lengths k ∷ []) [] n (omega arith) ∙ first-at store lengths k n b)
    (eq-or-lt_of_le p)

-- a part that ends before a list does
part-before : (p q : List ℕ) (i m : ℕ) → i + m ≤ length p → take m (drop i (p ++ q)) ≡ take m (drop i p)
part-before p q i m h =
    let l : m ≤ length (drop i p) = rw length-drop (omega arith) in
    ap (take m) (drop-append-le i p q (omega arith)) ∙ take-append-le m (drop i p) q l

-- a write from `at` on leaves the parts before it
part-kept : (at : ℕ) (b s : List ℕ) (i m : ℕ) → i + m ≤ at → at ≤ length s → take m (drop i (splice at b s)) ≡ take m (drop i s)
unfolding splice
part-kept at b s i m h k =
    let l : i + m ≤ length (take at s) = rw (length-take-le at s k) h in
    part-before (take at s) (b ++ drop (at + length b) s) i m l
    ∙ sym (ap (λ (x : List ℕ). take m (drop i x)) (sym (take-append-drop at s)) ∙ part-before (take at s) (drop at s) i m l)

module _ (store lengths b : List ℕ) (k : ℕ) (fits : k * room + length b ≤ length store) where
  -- the messages before it stay
  first-kept : (x j : ℕ) → j ≤ k → first_messages (splice (k * room) b store) (set lengths k x) j ≡ first_messages store lengths j
  unfolding first_messages
  first-kept x zero h = refl
  first-kept x (suc j) h =
      let n = min (get_or lengths j 0) room in
      let small : n ≤ room = min-le_right (get_or lengths j 0) room in
      let size : get_or (set lengths k x) j 0 ≡ get_or lengths j 0 = get_or-set_other lengths k j x 0 (λ e. omega arith) in
      let bytes : take n (drop (j * room) (splice (k * room) b store)) ≡ take n (drop (j * room) store) = part-kept (k * room) b store (j * room) n (omega arith) (omega arith) in
      let same : message_in (splice (k * room) b store) (set lengths k x) j ≡ message_in store lengths j =
      ap (λ (y : ℕ). take (min y room) (drop (j * room) (splice (k * room) b store))) size ∙ bytes in
      λ i. first-kept x j (omega arith) i ++ (same i ∷ [])

  -- and the new one stands behind them
  pub one_more : k < length lengths → length b ≤ room
      → first_messages (splice (k * room) b store) (set lengths k (length b)) (suc k) ≡ first_messages store lengths k ++ (b ∷ [])
  unfolding first_messages splice
  one_more h s =
      let at = k * room in
      let rest = drop (at + length b) store in
      let size : min (get_or (set lengths k (length b)) k 0) room ≡ length b = ap (λ (y : ℕ). min y room) (get_or-set_same lengths k (length b) 0 h) ∙ min-eq_left s in
      let there : drop at (take at store ++ (b ++ rest)) ≡ b ++ rest = drop_at (take at store) (b ++ rest) at (length-take-le at store (omega arith)) in
      let new : message_in (splice at b store) (set lengths k (length b)) k ≡ b = (λ i. take (size i) (there i)) ∙ take_at b rest (length b) refl in
      λ i. first-kept (length b) k (omega arith) i ++ (new i ∷ [])
