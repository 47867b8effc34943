-- Bytes written one after the other.
use mathlib.Core.Path.{◌≡◌, ap, ◌∙◌}
use mathlib.Core.List.{List, ◌++◌}
use Prim.Native.Nat.{ℕ, ◌+◌, ◌≤◌}
use native.Mathlib.Nat.{zero-add}
use native.Mathlib.Omega.{arith}
use lib.ListN.{length, length-append}
use Rattle.numbers.specs.Splice.{splice}
use Rattle.numbers.proofs.SpliceLaws.{put_next, length-splice}
use Rattle.decimal.specs.Room.{Put}
use Rattle.decimal.proofs.RoomLaws.{put-room, end-room}
use Rattle.judgement.specs.Promise.{Puts}

-- bytes where there is room
pub text_put : {at end : ℕ} {b before output : List ℕ} → at + length b ≤ length before → output ≡ splice at b before → end ≡ at + length b
    → Puts at b before output end
text_put {at} {end} {b} {before} room p e = record { bytes = p; ends = e; inside = omega (arith, ap length p, length-splice at b before room) }

pub number_put : {at end : ℕ} {b before output : List ℕ} → Put at b before output end → at + length b ≤ length before → Puts at b before output end
number_put {at} {end} {b} {before} p room = text_put room (p.bytes ∙ put-room at b before room) (p.ends ∙ end-room at b before room)

-- two writes are one
pub both_put : {at mid end : ℕ} {a b one two three : List ℕ} → Puts at a one two mid → Puts mid b two three end → at + length a ≤ length one
    → Puts at (a ++ b) one three end
both_put {at} {mid} {end} {a} {b} {one} p q h =
    let l = length-append a b in
    record { bytes = put_next one at mid a b p.ends h p.bytes q.bytes; ends = omega (arith, p.ends, q.ends, l); inside = q.inside }

-- a write leaves the output's length
pub put-size : {at end : ℕ} {b before output : List ℕ} → Puts at b before output end → at + length b ≤ length before → length output ≡ length before
put-size {at} {end} {b} {before} p h = ap length p.bytes ∙ length-splice at b before h

-- the same bytes under another name, from the start
pub put_as : {end : ℕ} {a b before output : List ℕ} → Puts 0 a before output end → a ≡ b
    → (output ≡ splice 0 b before) × ((end ≡ length b) × (end ≤ length output))
put_as {end} {a} {b} {before} p e =
    (p.bytes ∙ ap (λ (x : List ℕ). splice 0 x before) e, (p.ends ∙ zero-add (length a) ∙ ap length e, p.inside))
