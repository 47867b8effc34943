-- What the steps of an end are given: ranges that soundness and the questions have seen to. Contracts of the functions below the calls
-- ask for these records, and the calls make them.
use Rattle.std.specs.Prelude.{◌≡◌, true, ℕ, ◌+◌, ◌≤◌, ◌<◌}
use Rattle.message.specs.Limit.{number_limit, ticks_limit}
use Rattle.message.specs.Entry.{as_host}
use Rattle.end.specs.Parts.{Heard, Never, At, Span, Closed, Open}
use Rattle.end.specs.declared.Moment.{Moment}
use Rattle.end.specs.declared.End.{End}
use Rattle.end.specs.State.{distance_to}
use Rattle.end.specs.Round.{draw_count}
use Rattle.end.specs.Sound.{all_of, params_tests}

-- parameters and clock in range, and a distance: no product of a wait then leaves 64 bits
pub record Ranges (t : Moment) (d : ℕ) : Type 0 where
  pub c1 : t.params.c1 ≤ 32
  pub c2 : t.params.c2 ≤ 32
  pub c3 : t.params.c3 ≤ 32
  pub d1 : t.params.d1 ≤ 32
  pub d2 : t.params.d2 ≤ 32
  pub d3 : t.params.d3 ≤ 32
  pub express : t.params.express ≤ 1000
  pub clock : t.clock < ticks_limit
  pub distance : d ≤ 1000

-- parameters, clock and distances in range
pub record Ready (e : End) : Type 0 where
  pub params : all_of (params_tests e.params) ≡ true
  pub express : e.params.express ≤ 1000
  pub clock : e.clock < ticks_limit
  pub distances : (h : ℕ) → h < 8 → distance_to e (as_host h) ≤ 1000

-- a cue number that question 10 let through, and the draws that question 2 did
pub record Numbered (n draws : ℕ) : Type 0 where
  pub number : n < number_limit
  pub draws_in : draws ≡ draw_count

-- a span of at most 64 cue numbers
abbrev pub SpanIn : Span → Type 0
SpanIn Closed = Unit {0}
SpanIn (Open first last) = (first.0 ≤ last.0) × (last.0 < number_limit) × (last.0 ≤ first.0 + 63)

-- heard at the clock or before
abbrev pub HeardBy : ℕ → Heard → Type 0
HeardBy clock Never = Unit {0}
HeardBy clock (At stamp when reported) = when ≤ clock
