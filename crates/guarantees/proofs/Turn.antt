-- The statement of specs/Turn.antt. Call B(j) the bound t + (2^j−1)×(C1+C2)×d. A request that waits in round j is due by B(j): round 1 was set
-- at t = B(0); and no call is later than the due time, so round j+1 is set by B(j), and is then due at most 2^j×(C1+C2)×d later, which is B(j+1).
-- A call that finds round j waiting does not take the clock past B(j): one that takes it past B(k) finds that round k+1 was set, no later than B(k).
use mathlib.Core.Path.{◌≡◌, refl, sym, ap, ◌∙◌, subst}
use mathlib.Core.List.{List, [], ◌∷◌, ◌++◌}
use mathlib.Core.Logic.{◌⊎◌, inl, inr, ⊎_elim}
use mathlib.Core.Option.{Option, none, some}
use Prim.Native.Nat.{ℕ, ◌+◌, ◌-◌, ◌*◌, ◌^◌, ◌≤◌, ◌<◌}
use native.Mathlib.Nat.{mul-le-mul, pow-le-pow_right, pow-suc}
use native.Mathlib.Omega.{arith}
use lib.ListN.{length}
use lib.Dec.{eqb}
use borrow.Author.Tests.{eqb-true, eqb-false}
use Rattle.message.specs.Entry.{as_host}
use Rattle.end.specs.declared.Params.{Params}
use Rattle.end.specs.declared.Request.{Request}
use Rattle.end.specs.declared.End.{End}
use Rattle.end.specs.State.{distance_to, with_clock}
use Rattle.end.specs.Round.{Drawn, factor, request_at, next_round}
use Rattle.end.specs.Answer.{Result}
use Rattle.end.specs.Event.{question_of, event_of}
use Rattle.end.specs.Opening.{opening_of}
use Rattle.end.proofs.Tools.{by_cond, by_test, clash}
use Rattle.invariants.proofs.Clocks.{act_clock}
use Rattle.invariants.proofs.Questions.{Passed, passes}
use Rattle.guarantees.specs.Calls.{moment_at, OneCall, after, after_all}
use Rattle.guarantees.specs.Records.{request_of}
use Rattle.guarantees.specs.BackOff.{SetNow, DrawsFit}
use Rattle.guarantees.specs.Turn.{Always, Sometime, Taken, round_in, round_of, SetsRound, NeitherLeavesNorCrashes, DoesNotGet, DoesNotRetire, NotAfterDue, NotFarther, turn_by, SetBy, TurnComes, OpenedTurnComes}
use Rattle.guarantees.proofs.Calls.{call-cases}
use Rattle.guarantees.proofs.Slots.{waits_until_held, host_and_params_stay}
use Rattle.guarantees.proofs.BackOff.{call-between, set-now, set_or_kept, kept-through}

-- ---- the bound

turn-rises : (p : Params) (d t j k : ℕ) → j ≤ k → turn_by p d t j ≤ turn_by p d t k
turn-rises p d t j k l =
    let power : 2 ^ j ≤ 2 ^ k = pow-le-pow_right {n = 2} (omega arith) {i = j} {j = k} l in
    let less : 2 ^ j - 1 ≤ 2 ^ k - 1 = omega arith in
    let product : (2 ^ j - 1) * (p.c1 + p.c2) * d ≤ (2 ^ k - 1) * (p.c1 + p.c2) * d = mul-le-mul (mul-le-mul less (omega arith)) (omega arith) in
    omega arith

-- F×(C1+C2)×d of the next round, from B(j), reaches B(j+1)
turn-next : (p : Params) (d t j : ℕ) → turn_by p d t j + 2 ^ j * (p.c1 + p.c2) * d ≡ turn_by p d t (j + 1)
turn-next p d t j =
    let one : 1 ≤ 2 ^ j = pow-le-pow_right {n = 2} (omega arith) {i = 0} {j = j} (omega arith) in
    let double : 2 ^ (j + 1) ≡ 2 ^ j * 2 = ap (λ (i : ℕ). 2 ^ i) (omega arith) ∙ pow-suc 2 j in
    sums (2 ^ j - 1) (2 ^ j) (2 ^ (j + 1) - 1) (omega arith) (omega arith)
  where
    c : ℕ
    c = p.c1 + p.c2

    sums : (f g m : ℕ) → g ≡ f + 1 → m ≡ f + g → t + f * c * d + g * c * d ≡ t + m * c * d
    sums f g m a b = rw (b, a) (omega arith)

-- ---- a call

pub refused-same : (e : End) (c : OneCall) → Taken e c ⊎ (after e c ≡ e)
unfolding event_of
refused-same e c = by_cond (λ (r : Result). Taken e c ⊎ (r.left ≡ e)) (eqb (question_of e c.action c.clock c.room (length c.draws)) 0)
    (λ t. inl (eqb-true _ 0 t)) (λ t. inr refl)

-- the end is the same, or its clock is the call's
pub clock-after : (e : End) (c : OneCall) → (after e c ≡ e) ⊎ ((after e c).clock ≡ c.clock)
clock-after e c = call-cases (λ (r : Result). (r.left ≡ e) ⊎ (r.left.clock ≡ c.clock)) e c.action c.clock c.room c.draws
    (λ k. inl refl) (λ z w. inl refl) (λ z w. inr (act_clock c.draws (with_clock e c.clock) c.action))

-- the end's clock is at most a time that neither its clock before nor the call's passes
clock-by : (e : End) (c : OneCall) (due : ℕ) → e.clock ≤ due → c.clock ≤ due → (after e c).clock ≤ due
clock-by e c due a b = ⊎_elim (λ same. omega (arith, ap (λ (x : End). x.clock) same)) (λ set. omega arith) (clock-after e c)

-- ---- a request that waits in time: in round j, due by B(j), and the clock is not past its due time
record InTime (p : Params) (h n d t j : ℕ) (e : End) : Type 0 where
  request : Request
  waits : request_of e h n ≡ some request
  round : request.round ≡ j
  due : request.due ≤ turn_by p d t j
  clock : e.clock ≤ request.due
  params : e.params ≡ p

module _ (p : Params) (h n d t : ℕ) (hh : h < 8) where
  -- a request that a call sets, in round j+1 by B(j)
  set_in_time : (e : End) (c : OneCall) (j : ℕ) (q : Request) → e.params ≡ p → e.clock ≤ c.clock → distance_to e (as_host h) ≤ d
      → c.clock ≤ turn_by p d t j → q.round ≡ j + 1
      → SetNow e c.clock c.draws h n q → request_of (after e c) h n ≡ some q → InTime p h n d t (j + 1) (after e c)
  unfolding factor
  set_in_time e c j q params later near by round s now =
      let one : j + 1 - 1 ≡ j = omega arith in
      let f = 2 ^ j * (p.c1 + p.c2) in
      let far : f * distance_to e (as_host h) ≤ f * d = mul-le-mul {n₁ = f} (omega arith) near in
      let most : q.due ≤ c.clock + f * distance_to e (as_host h) = rw (sym params, sym one) (rw round at s.not_after) in
      let least = s.not-before in
      record {
        request = q;
        waits = now;
        round = round;
        due = omega (arith, turn-next p d t j);
        clock = clock-by e c q.due (omega arith) (omega arith);
        params = (host_and_params_stay e c.action c.clock c.room c.draws).1 ∙ params;
      }

  -- one call: the request goes on waiting in time, or the call sets its next round, by B(j)
  step : (e : End) (c : OneCall) (j : ℕ) → 1 ≤ j → j ≤ 15 → Drawn c.draws → InTime p h n d t j e
      → NeitherLeavesNorCrashes e c → DoesNotGet h n e c → DoesNotRetire h n e c → NotAfterDue h n e c → NotFarther d h e c
      → InTime p h n d t j (after e c) ⊎ (InTime p h n d t (j + 1) (after e c) × (c.clock ≤ turn_by p d t j))
  step e c j least most drawn i stays lacks keeps fires near = ⊎_elim taken (λ same. inl (subst (InTime p h n d t j) (sym same) i)) (refused-same e c)
    where
      q : Request
      q = i.request

      waiting : Taken e c → (r : Request) → request_of (after e c) h n ≡ some r
          → InTime p h n d t j (after e c) ⊎ (InTime p h n d t (j + 1) (after e c) × (c.clock ≤ turn_by p d t j))
      waiting tk r now =
          let z : Passed e c.action c.clock = passes e c.action c.clock c.room (length c.draws) tk in
          let by : c.clock ≤ q.due = fires tk q i.waits in
          let round = i.round in
          let soon = i.due in
          ⊎_elim
          (λ same. inl (record {
            request = q;
            waits = now ∙ ap some same;
            round = i.round;
            due = i.due;
            clock = clock-by e c q.due i.clock by;
            params = (host_and_params_stay e c.action c.clock c.room c.draws).1 ∙ i.params;
          }))
          (λ next.
          let is : r.round ≡ j + 1 = ap (λ (x : Request). x.round) next.1 ∙ ap next_round round ∙ omega arith in
          let set = set-now e c.clock c.draws h n r (j + 1) z.sound drawn (omega arith) (omega arith)
          (next.1 ∙ ap (request_at (moment_at e c.clock) c.draws (distance_to e (as_host h)) n) (ap next_round round ∙ omega arith)) in
          inr (set_in_time e c j r i.params z.later (near tk) (omega arith) is set now, omega arith))
          (call-between e c.action c.clock c.room c.draws h n q r hh i.waits now)

      taken : Taken e c → InTime p h n d t j (after e c) ⊎ (InTime p h n d t (j + 1) (after e c) × (c.clock ≤ turn_by p d t j))
      taken tk = ⊎_elim (λ w. waiting tk w.0 w.1) (λ held. clash (sym held ∙ lacks))
          (waits_until_held e c.action c.clock c.room c.draws h n q hh (stays tk) i.waits keeps)

  round_is : (e : End) (j : ℕ) → InTime p h n d t j e → round_of e h n ≡ j
  round_is e j i = ap round_in i.waits ∙ i.round

  -- a call that finds the request waiting in time does not take the clock past B(j)
  not-past : (e : End) (c : OneCall) (j : ℕ) → InTime p h n d t j e → NotAfterDue h n e c → (after e c).clock ≤ turn_by p d t j
  not-past e c j i fires =
      let due = i.due in
      let early = i.clock in
      ⊎_elim
      (λ tk.
      let by = clock-by e c i.request.due early (fires tk i.request i.waits) in
      omega arith)
      (λ same.
      let stays = ap (λ (x : End). x.clock) same in
      omega arith)
      (refused-same e c)

  -- all calls, from round j on, up to the one that takes the clock past B(k)
  comes : (cs : List OneCall) (next : OneCall) (e : End) (j k : ℕ) → 1 ≤ j → j ≤ k → k ≤ 15 → DrawsFit cs → InTime p h n d t j e
      → Always NeitherLeavesNorCrashes e cs → Always (DoesNotGet h n) e cs → Always (DoesNotRetire h n) e cs
      → Always (NotAfterDue h n) e (cs ++ (next ∷ [])) → Always (NotFarther d h) e cs
      → turn_by p d t k < (after_all e (cs ++ (next ∷ []))).clock → Sometime (SetBy (turn_by p d t k) (k + 1) h n) e cs
  comes [] next e j k least to most drawn i stays lacks keeps fires near passed =
      let rises = turn-rises p d t j k to in
      let by = not-past e next j i fires.0 in
      absurd (omega arith)
  comes (c ∷ cs) next e j k least to most drawn i stays lacks keeps fires near passed =
      ⊎_elim (λ same. inr (comes cs next (after e c) j k least to most drawn.1 same stays.1 lacks.1 keeps.1 fires.1 near.1 passed))
      (λ set. by_test (eqb j k)
      (λ b.
      let is : j ≡ k = eqb-true j k b in
      inl (
        (ap (λ (x : ℕ). x + 1) (round_is e j i ∙ is), round_is (after e c) (j + 1) set.0 ∙ ap (λ (x : ℕ). x + 1) is),
        subst (λ (x : ℕ). c.clock ≤ turn_by p d t x) is set.1,
      ))
      (λ b.
      let more = eqb-false j k b in
      inr (comes cs next (after e c) (j + 1) k (omega arith) (omega arith) most drawn.1 set.0
      stays.1 lacks.1 keeps.1 fires.1 near.1 passed)))
      (step e c j least (omega arith) drawn.0 i stays.0 lacks.0 keeps.0 fires.0 near.0)

-- ---- the call that sets round 1

-- where there is a round a request waits
in_round : (x : Option Request) → round_in x ≡ 1 → (q : Request) × (x ≡ some q)
in_round none r = absurd (omega arith)
in_round (some q) r = (q, refl)

first_in_time : (e : End) (c : OneCall) (h n d : ℕ) → h < 8 → Drawn c.draws → NotFarther d h e c → SetsRound 1 h n e c
    → InTime e.params h n d c.clock 1 (after e c)
first_in_time e c h n d hh drawn near sets =
    ⊎_elim taken (λ same. absurd (omega (arith, sets.0, sets.1, ap (λ (x : End). round_of x h n) same))) (refused-same e c)
  where
    taken : Taken e c → InTime e.params h n d c.clock 1 (after e c)
    taken tk =
        let z : Passed e c.action c.clock = passes e c.action c.clock c.room (length c.draws) tk in
        let w = in_round (request_of (after e c) h n) sets.1 in
        let q = w.0 in
        let round : q.round ≡ 1 = ap round_in (sym w.1) ∙ sets.1 in
        ⊎_elim (λ kept. absurd (omega (arith, sets.0, ap round_in kept, round)))
        (λ set. set_in_time e.params h n d c.clock hh e c 0 q refl z.later (near tk) (omega arith) round set w.1)
        (set_or_kept e c.action c.clock c.room c.draws h n q drawn hh w.1)

pub turn_comes : TurnComes
turn_comes e c cs next h n d k hh drawn sets s least most passed =
    let start = first_in_time e c h n d hh drawn.0 s.near.0 sets in
    comes e.params h n d c.clock hh cs next (after e c) 1 k (omega arith) least most drawn.1 start
    s.stays s.lacks s.keeps s.fires s.near.1 passed

pub opened_turn_comes : OpenedTurnComes
opened_turn_comes me p earlier c cs next h n d k hh drawn sets s least most passed =
    let e = after_all (opening_of me p).end earlier in
    let bound : Params → ℕ = λ q. turn_by q d c.clock k in
    subst (λ (q : Params). bound q < (after_all (after e c) (cs ++ (next ∷ []))).clock → Sometime (SetBy (bound q) (k + 1) h n) (after e c) cs)
    (kept-through earlier (opening_of me p).end).1 (turn_comes e c cs next h n d k hh drawn sets s least most) passed
