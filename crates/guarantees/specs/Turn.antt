-- When a request gets its turn; proofs/Turn.antt proves the statement. Document 02, P12: "After a member sets round 1 for a cue at clock t,
-- suppose it neither leaves nor crashes, doesn't get the cue or retire it, always fires a request before any event later than its due time,
-- and its distance to the source never exceeds d. Then for k from 1 to 15, once its clock has passed t + (2^k−1)×(C1+C2)×d, round k+1 has been
-- set no later than that (001, corollary 4.23)." The cue is number n of source h. Bytes of any kind may arrive, and other names, sources and
-- express waits do what they do; a refused call changes nothing, and nothing is supposed of it.
use Rattle.std.specs.Prelude.{◌≡◌, false, List, [], ◌∷◌, ◌++◌, ◌⊎◌, ℕ, ◌+◌, ◌-◌, ◌*◌, ◌^◌, ◌≤◌, ◌<◌, length}
use Rattle.std.proofs.Math.Option.{Option, none, some}
use Rattle.message.specs.declared.Host.{Host}
use Rattle.message.specs.Entry.{as_host}
use Rattle.end.specs.declared.Params.{Params}
use Rattle.end.specs.declared.Request.{Request}
use Rattle.end.specs.declared.End.{End}
use Rattle.end.specs.State.{distance_to}
use Rattle.end.specs.Records.{is_held}
use Rattle.end.specs.Event.{question_of}
use Rattle.end.specs.Opening.{opening_of}
use Rattle.guarantees.specs.Calls.{OneCall, after, after_all}
use Rattle.guarantees.specs.Records.{slot_of, request_of, clearing, retired}
use Rattle.guarantees.specs.BackOff.{DrawsFit}

-- ---- what is said of a call, or of each call of a list, on the end that it finds

abbrev pub Claim : Type 1
Claim = End → OneCall → Type 0

-- it holds of each of the calls
abbrev pub Always : Claim → End → List OneCall → Type 0
Always P e [] = Unit {0}
Always P e (c ∷ cs) = P e c × Always P (after e c) cs

-- it holds of one of them
abbrev pub Sometime : Claim → End → List OneCall → Type 0
Sometime P e [] = ⊥
Sometime P e (c ∷ cs) = P e c ⊎ Sometime P (after e c) cs

-- the call is not refused
abbrev pub Taken : Claim
Taken e c = question_of e c.action c.clock c.room (length c.draws) ≡ 0

-- ---- setting a round

-- the round in which the cue is asked for; 0 if no request for it waits
abbrev pub round_in : Option Request → ℕ
round_in none = 0
round_in (some q) = q.round

abbrev pub round_of : End → ℕ → ℕ → ℕ
round_of e h n = round_in (request_of e h n)

-- "sets round k": the call finds the request in the round before, or no request if k is 1, and leaves it in round k
abbrev pub SetsRound : ℕ → ℕ → ℕ → Claim
SetsRound k h n e c = (round_of e h n + 1 ≡ k) × (round_of (after e c) h n ≡ k)

-- ---- what is supposed of each call after the one that sets round 1

-- "it neither leaves nor crashes"
abbrev pub NeitherLeavesNorCrashes : Claim
NeitherLeavesNorCrashes e c = Taken e c → clearing c.action ≡ false

-- "doesn't get the cue": it is not held after the call
abbrev pub DoesNotGet : ℕ → ℕ → Claim
DoesNotGet h n e c = is_held (slot_of (after e c) h n) ≡ false

-- "or retire it": first does not pass its number
abbrev pub DoesNotRetire : ℕ → ℕ → Claim
DoesNotRetire h n e c = retired e (after e c) h n ≡ false

-- "always fires a request before any event later than its due time": no event that is not refused is later than the due time of the request
-- that it finds. Fire is an event too: where the clock passes a due time, a Fire at that very time has sent the request, unless a RQST or XPRS
-- set its next round before.
abbrev pub NotAfterDue : ℕ → ℕ → Claim
NotAfterDue h n e c = Taken e c → (q : Request) → request_of e h n ≡ some q → c.clock ≤ q.due

-- "its distance to the source never exceeds d": the distance that the call finds, by which it times a round that it sets
abbrev pub NotFarther : ℕ → ℕ → Claim
NotFarther d h e c = Taken e c → distance_to e (as_host h) ≤ d

-- All of them, of the calls cs after the call c on the end e; the distance of c too, which sets round 1. Of the call that comes next and takes
-- the clock past the bound it is supposed only that the request was fired before it: it may bring the cue or retire it, or be a Leave.
pub record Supposed (h n d : ℕ) (e : End) (c : OneCall) (cs : List OneCall) (next : OneCall) : Type 0 where
  pub stays : Always NeitherLeavesNorCrashes (after e c) cs
  pub lacks : Always (DoesNotGet h n) (after e c) cs
  pub keeps : Always (DoesNotRetire h n) (after e c) cs
  pub fires : Always (NotAfterDue h n) (after e c) (cs ++ (next ∷ []))
  pub near : Always (NotFarther d h) e (c ∷ cs)

-- ---- the statement

-- "t + (2^k−1)×(C1+C2)×d"
abbrev pub turn_by : Params → ℕ → ℕ → ℕ → ℕ
turn_by p d t k = t + (2 ^ k - 1) * (p.c1 + p.c2) * d

-- "round k+1 has been set no later than that": one of the calls has done so
abbrev pub SetBy : ℕ → ℕ → ℕ → ℕ → Claim
SetBy bound k h n e c = SetsRound k h n e c × (c.clock ≤ bound)

-- Of any end, and any call c on it that sets round 1: such a call is not refused, so the end is a sound member. The draws have their declared
-- type. Once the call `next` has taken the clock past the bound, one of the calls cs before it has set round k+1.
abbrev pub TurnComes : Type 0
TurnComes = (e : End) (c : OneCall) (cs : List OneCall) (next : OneCall) (h n d k : ℕ) → h < 8 → DrawsFit (c ∷ cs)
    → SetsRound 1 h n e c → Supposed h n d e c cs next → 1 ≤ k → k ≤ 15
    → let bound = turn_by e.params d c.clock k in
    bound < (after_all (after e c) (cs ++ (next ∷ []))).clock → Sometime (SetBy bound (k + 1) h n) (after e c) cs

-- So in every list of calls from an opening, `earlier` before c, then cs and next: the parameters are those of the opening.
abbrev pub OpenedTurnComes : Type 0
OpenedTurnComes = (me : Host) (p : Params) (earlier : List OneCall) (c : OneCall) (cs : List OneCall) (next : OneCall) (h n d k : ℕ)
    → h < 8 → DrawsFit (c ∷ cs)
    → let fresh = (opening_of me p).end in
    let e = after_all fresh earlier in
    SetsRound 1 h n e c → Supposed h n d e c cs next → 1 ≤ k → k ≤ 15
    → let bound = turn_by fresh.params d c.clock k in
    bound < (after_all (after e c) (cs ++ (next ∷ []))).clock → Sometime (SetBy bound (k + 1) h n) (after e c) cs
