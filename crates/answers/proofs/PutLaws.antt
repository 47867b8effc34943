-- Pieces of a line, one after the other.
use mathlib.Core.Path.{◌≡◌, ◌∙◌, subst}
use mathlib.Core.List.{List, ◌++◌}
use Prim.Native.Nat.{ℕ, ◌+◌, ◌≤◌}
use native.Mathlib.Omega.{arith}
use lib.ListN.{length, length-append}
use Rattle.numbers.proofs.SpliceLaws.{put_next}
use Rattle.decimal.specs.Room.{Put as Placed}
use Rattle.decimal.proofs.RoomLaws.{put-room, end-room}
use Rattle.answers.specs.Put.{Put}

-- two pieces are one; `most` bounds both together
pub put_both : {m n most at mid end : ℕ} {a b one two three : List ℕ} → Put m at a one two mid → Put n mid b two three end
    → m + n ≤ most → at + m ≤ length one → Put most at (a ++ b) one three end
put_both {m} {n} {most} {at} {mid} {end} {a} {b} {one} {two} {three} p q s h =
    let l : length (a ++ b) ≡ length a + length b = length-append a b in
    record {
      bytes = put_next one at mid a b p.ends (omega (arith, p.small)) p.bytes q.bytes;
      ends = omega (arith, p.ends, q.ends);
      small = omega (arith, p.small, q.small);
    }

-- a piece in a larger room
pub put_wider : {m most at end : ℕ} {a one two : List ℕ} → Put m at a one two end → m ≤ most → Put most at a one two end
put_wider p h = record { bytes = p.bytes; ends = p.ends; small = omega (arith, p.small) }

-- another name for the same bytes
pub put_same : {most at end : ℕ} {a b one two : List ℕ} → Put most at a one two end → a ≡ b → Put most at b one two end
put_same {most} {at} {end} {a} {b} {one} {two} p e = subst (λ (w : List ℕ). Put most at w one two end) e p

-- what was put where there is room
pub put_in_room : {most at end : ℕ} {b one two : List ℕ} → Placed at b one two end → length b ≤ most → at + most ≤ length one → Put most at b one two end
put_in_room {most} {at} {end} {b} {one} p k h =
    record {
      bytes = p.bytes ∙ put-room at b one (omega arith);
      ends = p.ends ∙ end-room at b one (omega arith);
      small = k;
    }
