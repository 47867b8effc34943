-- Bounds, once and for all: no product of a wait leaves 64 bits, and due and quiet times stay below 2^48+2^32. The code's proofs
-- cite these.
use Prim.Native.Nat.{ℕ, ◌+◌, ◌-◌, ◌*◌, ◌≤◌, ◌<◌}
use native.Mathlib.Nat.{mul-le-mul, pow-le-pow_right}
use native.Mathlib.Omega.{arith}
use mathlib.Core.Path.{◌≡◌}
use mathlib.Core.List.{List}
use Rattle.end.specs.declared.Moment.{Moment}
use Rattle.end.specs.Round.{most_draw, draw_at, factor, share, request_at, next_round, reply_due, quiet_after_reply, eighth_up, half_trip, LeastMilliseconds}
use Rattle.end.specs.Sound.{time_limit}
use Rattle.end.specs.Ready.{Ranges}

-- a round's factor is 1, 2, 4, .. 32768
pub factor-most : (k : ℕ) → k ≤ 16 → factor k ≤ 32768
unfolding factor
factor-most k h = pow-le-pow_right {n = 2} (omega arith) {i = k - 1} {j = 15} (omega arith)

pub factor-least : (k : ℕ) → 1 ≤ factor k
unfolding factor
factor-least k = pow-le-pow_right {n = 2} (omega arith) {i = 0} {j = k - 1} (omega arith)

-- the next round is one of the sixteen
pub round-next : (k : ℕ) → 1 ≤ k → (1 ≤ next_round k) × (next_round k ≤ 16)
round-next k h = (omega arith, omega arith)

-- the laws of `share`: nothing for draw 0, the whole wait for the greatest, never above the wait, never falling in the draw. Nothing
-- else looks into it.
pub share-none : (x : ℕ) → share x 0 ≡ 0
unfolding share
share-none x = omega arith

pub share-whole : (x : ℕ) → share x most_draw ≡ x
unfolding share
share-whole x = omega arith

pub share-rises : (x u v : ℕ) → u ≤ v → share x u ≤ share x v
unfolding share
share-rises x u v h =
    let p : x * u ≤ x * v = mul-le-mul (omega arith) h in
    omega arith

pub share-most : (x u : ℕ) → u ≤ most_draw → share x u ≤ x
unfolding share
share-most x u h =
    let p : x * u ≤ x * most_draw = mul-le-mul (omega arith) h in
    omega arith

-- the products of a round, and of a reply
pub round_product : (k c d : ℕ) → k ≤ 16 → c ≤ 32 → d ≤ 1000 → factor k * c * d ≤ 1048576000
round_product k c d hk hc hd = mul-le-mul (mul-le-mul (factor-most k hk) hc) hd

pub drawn_product : (x u m : ℕ) → x ≤ m → u ≤ most_draw → x * u ≤ m * most_draw
drawn_product x u m hx hu = mul-le-mul hx hu

pub reply_product : (c d : ℕ) → c ≤ 32 → d ≤ 1000 → c * d ≤ 32000
reply_product c d hc hd = mul-le-mul hc hd

module _ (t : Moment) (us : List ℕ) (d : ℕ) (r : Ranges t d) (n : ℕ) (draw : draw_at us n ≤ most_draw) where
  -- "due and quiet times are below 2^48+2^32"
  pub request_in_lem : (k : ℕ) → k ≤ 16 → ((request_at t us d n k).due < time_limit) × ((request_at t us d n k).quiet < time_limit)
  request_in_lem k hk =
      let a : factor k * t.params.c1 * d ≤ 1048576000 = round_product k t.params.c1 d hk r.c1 r.distance in
      let b : factor k * t.params.c2 * d ≤ 1048576000 = round_product k t.params.c2 d hk r.c2 r.distance in
      let c : factor k * t.params.c3 * d ≤ 1048576000 = round_product k t.params.c3 d hk r.c3 r.distance in
      let s : share (factor k * t.params.c2 * d) (draw_at us n) ≤ factor k * t.params.c2 * d = share-most (factor k * t.params.c2 * d) (draw_at us n) draw in
      let now : t.clock < 281474976710656 = r.clock in
      (omega arith, omega arith)

  pub reply_in_lem : (reply_due t us d n < time_limit) × (quiet_after_reply t d < time_limit)
  reply_in_lem =
      let a : t.params.d1 * d ≤ 32000 = reply_product t.params.d1 d r.d1 r.distance in
      let b : t.params.d2 * d ≤ 32000 = reply_product t.params.d2 d r.d2 r.distance in
      let c : t.params.d3 * d ≤ 32000 = reply_product t.params.d3 d r.d3 r.distance in
      let s : share (t.params.d2 * d) (draw_at us n) ≤ t.params.d2 * d = share-most (t.params.d2 * d) (draw_at us n) draw in
      let now : t.clock < 281474976710656 = r.clock in
      (omega arith, omega arith)

  -- a round that is set is due at its clock or later, by no more than F×(C1+C2)×d
  pub request-between : (k : ℕ) → (t.clock + factor k * t.params.c1 * d ≤ (request_at t us d n k).due)
      × ((request_at t us d n k).due ≤ t.clock + factor k * t.params.c1 * d + factor k * t.params.c2 * d)
  request-between k =
      let s : share (factor k * t.params.c2 * d) (draw_at us n) ≤ factor k * t.params.c2 * d = share-most (factor k * t.params.c2 * d) (draw_at us n) draw in
      (omega arith, omega arith)

-- a distance that is measured is 1..1000
pub half_trip_in : (e : ℕ) → (1 ≤ half_trip e) × (half_trip e ≤ 1000)
half_trip_in e = (omega arith, omega arith)

-- and before that it is the least whole number of milliseconds that is at least e/8
pub least_milliseconds : LeastMilliseconds
least_milliseconds e = (omega arith, λ ms h. omega arith)
