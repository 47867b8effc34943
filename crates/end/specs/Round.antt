-- When a request and a reply are due, and how far a host is. Document 01, "Events": "Setting round k at clock t", "RQST", "SESS"; document
-- 02, P1 and P2. The moment has the parameters and the clock; the draws stand beside it.
use Rattle.std.specs.Prelude.{ℕ, ◌+◌, ◌-◌, ◌*◌, ◌/◌, ◌^◌, ◌≤◌, min, max, List, get_or}
use Rattle.end.specs.declared.Request.{Request}
use Rattle.end.specs.declared.Moment.{Moment}
use Rattle.end.specs.Records.{place}

-- "Draws become 64 numbers of 16 bits" (document 02, P1): how many they are, and the greatest value of one
abbrev pub draw_count : ℕ
draw_count = 64

abbrev pub most_draw : ℕ
most_draw = 65535

-- draws of their declared type
abbrev pub Drawn : List ℕ → Type 0
Drawn us = (i : ℕ) → get_or us i 0 ≤ most_draw

-- "u the draw at the cue number"; document 02, P7: "Cue number n uses draw n mod 64."
abbrev pub draw_at : List ℕ → ℕ → ℕ
draw_at us n = get_or us (place n) 0

-- "F = 2^(k−1)"
unfoldable pub factor : ℕ → ℕ
factor k = 2 ^ (k - 1)

-- "the wait's share is floor(.. × u/65535)" (document 02, P1)
unfoldable pub share : ℕ → ℕ → ℕ
share wait u = wait * u / most_draw

-- "due = t + F×C1×d + floor(F×C2×d×u/255); quiet-until = t + F×C3×d", with the share of document 02
abbrev pub request_with : Moment → ℕ → ℕ → ℕ → Request
request_with t u d k = record {
  round = k;
  due = t.clock + factor k * t.params.c1 * d + share (factor k * t.params.c2 * d) u;
  quiet = t.clock + factor k * t.params.c3 * d;
}

abbrev pub request_at : Moment → List ℕ → ℕ → ℕ → ℕ → Request
request_at t us d n k = request_with t (draw_at us n) d k

-- "After 16 comes 16."
abbrev pub next_round : ℕ → ℕ
next_round k = min (k + 1) 16

-- "a reply due at t + D1×d + floor(D2×d×u/255), d to the requester", with the share of document 02: "Requests and replies both have the
-- new share"
abbrev pub reply_with : Moment → ℕ → ℕ → ℕ
reply_with t u d = t.clock + t.params.d1 * d + share (t.params.d2 * d) u

abbrev pub reply_due : Moment → List ℕ → ℕ → ℕ → ℕ
reply_due t us d n = reply_with t (draw_at us n) d

-- "reply-quiet = t + D3×d, d to the requester"
abbrev pub quiet_after_reply : Moment → ℕ → ℕ
quiet_after_reply t d = t.clock + t.params.d3 * d

-- "The distance is now the least whole number of milliseconds that is at least e/8, then brought into 1..1000." (document 02, P2)
abbrev pub eighth_up : ℕ → ℕ
eighth_up e = (e + 7) / 8

abbrev pub half_trip : ℕ → ℕ
half_trip e = max 1 (min 1000 (eighth_up e))

-- that `eighth_up` is the request's sentence: e/8 is at most it, and no smaller whole number has that
abbrev pub LeastMilliseconds : Type 0
LeastMilliseconds = (e : ℕ) → (e ≤ 8 * eighth_up e) × ((ms : ℕ) → e ≤ 8 * ms → eighth_up e ≤ ms)
