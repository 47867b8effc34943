-- The laws of `specs/Room.antt`: a part of a line, and bytes put where there is room.
use mathlib.Core.Path.{◌≡◌, sym, ap, ◌∙◌, subst}
use mathlib.Core.List.{List, [], ◌∷◌}
use Prim.Native.Nat.{ℕ, ◌+◌, ◌-◌, ◌≤◌, ◌<◌, min}
use native.Mathlib.Omega.{arith}
use lib.ListN.{length, drop, set, length-drop}
use lib.Seq.{take_all}
use borrow.Author.Tests.{le-leb, lt-leb}
use Rattle.numbers.specs.Splice.{splice}
use Rattle.numbers.proofs.SpliceLaws.{splice-one, put_next}
use Rattle.numbers.proofs.Cases.{by_order}
use Rattle.decimal.specs.Room.{part, put_at, end_at, Put}

-- ---- parts

pub part_none : (from to : ℕ) (s : List ℕ) → to ≤ from → part from to s ≡ []
part_none from to s h =
    let e : to - from ≡ 0 = omega arith in
    rw e

-- to the line's end
pub part-rest : (from to : ℕ) (s : List ℕ) → length s ≤ to → part from to s ≡ drop from s
part-rest from to s h = take_all (to - from) (drop from s) (simp length-drop (omega arith))

-- an end past the line's is the line's
pub part_clamped : (from to : ℕ) (s : List ℕ) → part from to s ≡ part from (min to (length s)) s
part_clamped from to s =
    by_order to (length s)
    (λ l. ap (λ (e : ℕ). part from e s) (omega arith))
    (λ g. part-rest from to s g ∙ sym (part-rest from (min to (length s)) s (omega arith)))

-- a start and an end within the line
pub part-within : (from to : ℕ) {start end : ℕ} (s : List ℕ) → end ≡ min to (length s) → start ≡ min from end → part start end s ≡ part from to s
part-within from to {start} {end} s e b =
    let k : part from end s ≡ part from to s = ap (λ (n : ℕ). part from n s) e ∙ sym (part_clamped from to s) in
    by_order from end
    (λ l. ap (λ (n : ℕ). part n end s) (omega arith) ∙ k)
    (λ g. part_none start end s (omega arith) ∙ sym (part_none from end s g) ∙ k)

-- ---- room

pub put-room : (at : ℕ) (b out : List ℕ) → at + length b ≤ length out → put_at at b out ≡ splice at b out
unfolding put_at
put-room at b out h = rw (le-leb (at + length b) (length out) h)

pub end-room : (at : ℕ) (b out : List ℕ) → at + length b ≤ length out → end_at at b out ≡ at + length b
unfolding end_at
end-room at b out h = rw (le-leb (at + length b) (length out) h)

-- what a write promises, where there is room and where there is none
pub written : {at w : ℕ} {b out after : List ℕ} → w ≡ length b → at + w ≤ length out → after ≡ splice at b out → Put at b out after (at + w)
written {at} {w} {b} {out} e h p =
    let k : at + length b ≤ length out = omega arith in
    record { bytes = p ∙ sym (put-room at b out k); ends = omega (arith, end-room at b out k) }

pub signed-written : {at w : ℕ} {b out after : List ℕ} → w ≡ length b + 1 → at + w ≤ length out → after ≡ splice (at + 1) b (set out at 45)
    → Put at (45 ∷ b) out after (at + w)
signed-written {at} {w} {b} {out} e h p =
    written (omega arith) h (put_next out at (at + 1) (45 ∷ []) b (omega arith) (omega arith) (splice-one at 45 out (omega arith)) p)

pub not_written : {at : ℕ} {b out : List ℕ} → length out < at + length b → Put at b out out at
unfolding put_at end_at
not_written {at} {b} {out} h =
    let e = lt-leb (at + length b) (length out) h in
    record { bytes = rw e; ends = rw e }

pub put_same : {at end : ℕ} {a b out after : List ℕ} → Put at a out after end → a ≡ b → Put at b out after end
put_same {at} {end} {a} {b} {out} {after} p e = subst (λ (w : List ℕ). Put at w out after end) e p
