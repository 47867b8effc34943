-- The laws of `splice`.
use mathlib.Core.Path.{◌≡◌, sym, ap, ◌∙◌}
use Prim.Native.Nat.{ℕ, ◌+◌, ◌-◌, ◌≤◌, ◌<◌}
use native.Mathlib.Nat.{add-zero, zero-add}
use native.Mathlib.Numerals.{add-one}
use native.Mathlib.Omega.{arith}
use mathlib.Core.List.{List, [], ◌∷◌, ◌++◌, append_assoc}
use borrow.Rule.Slice.PartMut.{put_mid, post_of, Post-is}
use lib.ListN.{length, take, drop, set, length-append, length-drop, take-append-drop}
use lib.Seq.{length-take-le, set_split, take_at, drop_at, drop-drop}
use Rattle.numbers.specs.Splice.{splice}

pub splice_nil : (at : ℕ) (out : List ℕ) → splice at [] out ≡ out
unfolding splice
splice_nil at out = rw add-zero (take-append-drop at out)

-- one store
pub splice-one : (at x : ℕ) (out : List ℕ) → at < length out → set out at x ≡ splice at (x ∷ []) out
unfolding splice
splice-one at x out h = rw (set_split out at x, add-one)

pub length-splice : (at : ℕ) (b out : List ℕ) → at + length b ≤ length out → length (splice at b out) ≡ length out
unfolding splice
length-splice at b out h =
    rw (length-append, length-append, length-drop, length-take-le at out (omega arith)) (omega arith)

-- a write and then the next one are one write
pub splice-splice : (at n : ℕ) (a b out : List ℕ) → n ≡ at + length a → at + length a ≤ length out
    → splice n b (splice at a out) ≡ splice at (a ++ b) out
unfolding splice
splice-splice at n a b out e h =
    let k : length (take at out ++ a) ≡ n = rw (length-append, length-take-le at out (omega arith)) (omega arith) in
    let q : at + length a + length b ≡ at + length (a ++ b) = rw length-append (omega arith) in
    let s : take at out ++ (a ++ drop (at + length a) out) ≡ (take at out ++ a) ++ drop (at + length a) out = sym (append_assoc (take at out) a (drop (at + length a) out)) in
    let t : take n (take at out ++ (a ++ drop (at + length a) out)) ≡ take at out ++ a = ap (take n) s ∙ take_at (take at out ++ a) (drop (at + length a) out) n k in
    let d : drop (n + length b) (take at out ++ (a ++ drop (at + length a) out)) ≡ drop (at + length (a ++ b)) out =
    ap (drop (n + length b)) s ∙ sym (drop-drop (length b) n ((take at out ++ a) ++ drop (at + length a) out))
    ∙ ap (drop (length b)) (drop_at (take at out ++ a) (drop (at + length a) out) n k)
    ∙ drop-drop (length b) (at + length a) out ∙ ap (λ (i : ℕ). drop i out) q in
    (λ i. t i ++ (b ++ d i)) ∙ simp append_assoc

-- from the start: the bytes, then the rest of the buffer
pub splice-start : (b out : List ℕ) → splice 0 b out ≡ b ++ drop (length b) out
unfolding splice
splice-start b out = ap (λ (i : ℕ). b ++ drop i out) (zero-add (length b))

-- a chain of writes: the next one, at n, where the bytes so far end
pub put_next : {one two : List ℕ} (out : List ℕ) (at n : ℕ) (a b : List ℕ) → n ≡ at + length a → at + length a ≤ length out
    → one ≡ splice at a out → two ≡ splice n b one → two ≡ splice at (a ++ b) out
put_next out at n a b e h p q = q ∙ ap (splice n b) p ∙ splice-splice at n a b out e h

-- the same for one stored byte
pub put-store : {one : List ℕ} (out : List ℕ) (at n : ℕ) (a : List ℕ) (x : ℕ) → n ≡ at + length a → n < length out
    → one ≡ splice at a out → set one n x ≡ splice at (a ++ (x ∷ [])) out
put-store {one} out at n a x e h p =
    let l : length one ≡ length out = ap length p ∙ length-splice at a out (omega arith) in
    put_next out at n a (x ∷ []) e (omega arith) p (splice-one n x one (omega arith))

-- a part of a slice written over: the bytes from `at` to e
pub splice_put : (at e : ℕ) {b ys : List ℕ} (out : List ℕ) → e ≡ at + length b → ys ≡ b → put_mid at (e - at) out ys ≡ splice at b out
unfolding splice
splice_put at e {b} out h p =
    ap (λ (l : List ℕ). take at out ++ (l ++ post_of at (e - at) out)) p
    ∙ ap (λ (l : List ℕ). take at out ++ (b ++ l)) (Post-is at e out (omega arith) ∙ ap (λ (n : ℕ). drop n out) h)
