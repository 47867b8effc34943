-- When a request gets its turn, document 02, P12: the statement of the crate `guarantees`, Turn, which defines what is supposed; and the computed
-- runs of the crate `cases`, Turn, by which it says something, and each thing that is supposed is needed.
use Rattle.std.specs.Prelude.{List, [], ◌∷◌, ◌++◌, ℕ, ◌+◌, ◌-◌, ◌*◌, ◌^◌, ◌≤◌, ◌<◌}
use Rattle.message.specs.declared.Host.{Host}
use Rattle.end.specs.declared.Params.{Params}
use Rattle.end.specs.declared.End.{End}
use Rattle.end.specs.Opening.{opening_of}
use Rattle.guarantees.specs.Calls.{OneCall, after, after_all}
use Rattle.guarantees.specs.BackOff.{DrawsFit}
use Rattle.guarantees.specs.Turn.{Sometime, SetsRound, Supposed, SetBy}
use Rattle.cases.specs.Turn.{FourRounds, EachIsNeeded}

pub record TurnKept : Type 0 where
  -- A call c sets round 1 for number n of source h; after it come any calls cs of which the request's suppositions hold, with a distance up to d,
  -- and a next one, of which only this: it is not later than the due time of the request that it finds, if one waits. For k from 1 to 15, once it
  -- has taken the clock past the bound, one of the calls cs has set round k+1, no later than the bound.
  pub turn_comes : (e : End) (c : OneCall) (cs : List OneCall) (next : OneCall) (h n d k : ℕ) → h < 8 → DrawsFit (c ∷ cs)
      → SetsRound 1 h n e c → Supposed h n d e c cs next → 1 ≤ k → k ≤ 15
      → c.clock + (2 ^ k - 1) * (e.params.c1 + e.params.c2) * d < (after_all (after e c) (cs ++ (next ∷ []))).clock
      → Sometime (SetBy (c.clock + (2 ^ k - 1) * (e.params.c1 + e.params.c2) * d) (k + 1) h n) (after e c) cs
  -- So in every list of calls from an opening, `earlier` before c, then cs and next: the parameters are those of the opening.
  pub opened_turn_comes : (me : Host) (p : Params) (earlier : List OneCall) (c : OneCall) (cs : List OneCall) (next : OneCall) (h n d k : ℕ)
      → h < 8 → DrawsFit (c ∷ cs)
      → let fresh = (opening_of me p).end in
      let e = after_all fresh earlier in
      SetsRound 1 h n e c → Supposed h n d e c cs next → 1 ≤ k → k ≤ 15
      → c.clock + (2 ^ k - 1) * (fresh.params.c1 + fresh.params.c2) * d < (after_all (after e c) (cs ++ (next ∷ []))).clock
      → Sometime (SetBy (c.clock + (2 ^ k - 1) * (fresh.params.c1 + fresh.params.c2) * d) (k + 1) h n) (after e c) cs
  -- A run in which all of it holds: rounds 2 to 4 are set at the very bounds, and the next call brings the cue.
  pub four-rounds : FourRounds
  -- Runs in which one supposition fails alone, and the round is not set by the bound.
  pub each_is_needed : EachIsNeeded
