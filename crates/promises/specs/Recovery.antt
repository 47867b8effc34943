-- Timely recovery: by when a lost cue is there. The statements of the crate `recovery`, which defines what is supposed of the two ends (`Supposed`) and of
-- the network (`Whole`, `Network`); and the computed lists of the crate `recovery_cases`, by which they say something, and what they suppose is needed.
-- Lookback is 2Δ + D3×reach, the answer's time 2Δ + (D1+D2)×reach + Λ. After source document 001, lemma 4.30 and theorems 4.35 to 4.37, 6.34 and 6.35.
-- At Type 1, since two of them speak of any predicate on times or calls.
use Rattle.std.specs.Prelude.{◌≡◌, true, false, ℕ, ◌+◌, ◌-◌, ◌*◌, ◌≤◌, ◌<◌, length}
use mathlib.Core.List.{List, [], ◌∷◌, ◌++◌, Memᴰ}
use Rattle.std.proofs.Math.Option.{none, some}
use Rattle.message.specs.Entry.{as_host}
use Rattle.message.specs.Message.{meaning_from}
use Rattle.message.specs.Question.{same_host}
use Rattle.end.specs.declared.Request.{Request}
use Rattle.end.specs.Parts.{Soon}
use Rattle.end.specs.declared.Slot.TheVariants.{Waiting}
use Rattle.end.specs.declared.End.{End}
use Rattle.end.specs.State.{source_at, distance_to, is_member}
use Rattle.end.specs.Records.{is_closed, is_below}
use Rattle.end.specs.Round.{factor}
use Rattle.end.specs.Answer.{Out, Did}
use Rattle.end.specs.Event.{Arrival}
use Rattle.end.specs.Run.{Call, World, Fresh}
use Rattle.invariants.specs.Lists.{through}
use Rattle.guarantees.specs.Calls.{OneCall, after, after_all}
use Rattle.guarantees.specs.Records.{slot_of, request_of}
use Rattle.guarantees.specs.BackOff.{DrawsFit}
use Rattle.guarantees.specs.Turn.{Claim, Always, Sometime, Taken}
use Rattle.recovery.specs.Recovery.{Side, opened, begun, time_of, answer_of, Recovery, asker_params, lookback, answer_time, LaterThan, Passes, Passed, RecoversBy}
use Rattle.recovery.specs.Supposed.{Reaches, Settled, Supposed}
use Rattle.recovery.specs.Whole.{FromOther, Whole}
use Rattle.recovery.specs.Losses.{factor_sum, Between, LongRound, FirstAsks}
use Rattle.recovery.specs.Outage.{Outlasts}
use Rattle.recovery.specs.Several.{EachSupposed, WholeAmong, AllPassed}
use Rattle.recovery.specs.Detection.{Reports, Knows, reporting, last_is_at_least, Listens, ReportsEvery, KnownBy}
use Rattle.recovery.specs.Express.{BothStay, ExpressInTime, ExpressReaches, ExpressReturns}
use Rattle.recovery.specs.Network.{Ends, Network}
use Rattle.recovery.specs.Lists.{one_of, calls_of, side_of, SomeCall, EachCall}
use Rattle.recovery.specs.Timely.{TimelySupposed, SteadySupposed, Play, sides_in, recovery_in, reporter_in, HandedOutBy}
use Rattle.recovery_cases.specs.Rows.{RowsShown}

pub record RecoveryKept : Type 1 where
  -- What the holder keeps of the cue is settled after any calls that found no requester's distance above `reach`.
  pub settles : (m : Recovery) → m.source < 8 → DrawsFit m.holder.earlier → Always (Reaches m) (opened m.holder) m.holder.earlier
      → Settled m (begun m.holder)
  -- A request that waits later than t1 + lookback, with nothing lost since t1, is answered: got by its due time + Λ and an answer's time.
  pub answered : (m : Recovery) (t1 : ℕ) → Supposed m t1 → (mid rest : List OneCall) → m.asker.later ≡ mid ++ rest
      → let e = after_all (begun m.asker) mid in
      (q : Request) → request_of e m.source m.number ≡ some q → Always (LaterThan m.asker (t1 + lookback m)) e rest
      → let bound = q.due + m.asker.ahead + m.late + answer_time m in
      Whole m (λ t. (t1 < t) × (t + m.delay ≤ bound)) → Passes m.asker bound e rest → Passed m.holder bound → RecoversBy m bound
  -- A cue first asked for at t0, later than t1 + lookback, with nothing lost since t1: got by t0 + F×(C1+C2)×far + Λ and an answer's time, F = 1 or 2.
  pub steady : (m : Recovery) (t1 far : ℕ) → Supposed m t1
      → (mid : List OneCall) (c : OneCall) (rest : List OneCall) → m.asker.later ≡ mid ++ (c ∷ rest)
      → let e = after_all (begun m.asker) mid in
      (q : Request) → request_of e m.source m.number ≡ none → request_of (after e c) m.source m.number ≡ some q
      → distance_to e (as_host m.source) ≤ far → t1 + lookback m < time_of m.asker c
      → let bound = time_of m.asker c + factor q.round * ((asker_params m).c1 + (asker_params m).c2) * far + m.late + answer_time m in
      Whole m (λ t. (t1 < t) × (t + m.delay ≤ bound))
      → Passes m.asker bound (after e c) rest → Passed m.holder bound → (q.round ≤ 2) × RecoversBy m bound
  -- First asked for at t0, with losses at k times after it: got by t0 + (f(first)+..+f(J+k))×(C1+C2)×far + (J+k)×Λ and an answer's time; from round 1
  -- and up to J+k = 16 the sum is 2^(J+k)−1.
  pub recovers : (m : Recovery) (near far t1 t0 round j : ℕ) → Supposed m t1 → t1 ≤ t0 → FirstAsks m t0 round → round ≤ j → LongRound m near j
      → Always (Between m near far) (begun m.asker) m.asker.later
      → (lost : List ℕ) → Whole m (λ t. (t0 < t) × (Memᴰ t lost → ⊥))
      → let k = length lost in
      let bound = t0 + (factor_sum (j + k) - factor_sum (round - 1)) * ((asker_params m).c1 + (asker_params m).c2) * far + (j + k) * m.late + answer_time m in
      Passed m.asker bound → Passed m.holder bound → RecoversBy m bound
  -- Whatever was lost up to t1 and nothing since: got by t1 + lookback + F×(C1+C2)×far + Λ and an answer's time.
  pub after-outage : (m : Recovery) (near far t1 t0 round f : ℕ) → Supposed m t1 → FirstAsks m t0 round → t0 ≤ t1 + lookback m
      → Outlasts m near t1 t0 round f → Always (Between m near far) (begun m.asker) m.asker.later
      → let bound = t1 + lookback m + f * ((asker_params m).c1 + (asker_params m).c2) * far + m.late + answer_time m in
      Whole m (λ t. (t1 < t) × (t + m.delay ≤ bound)) → Passed m.asker bound → Passed m.holder bound → RecoversBy m bound
  -- The same with several holders, each request reaching only some of them.
  pub answered-among : (m : Recovery) (others : List Side) (t1 : ℕ) → EachSupposed m others t1 → (mid rest : List OneCall) → m.asker.later ≡ mid ++ rest
      → let e = after_all (begun m.asker) mid in
      (q : Request) → request_of e m.source m.number ≡ some q → Always (LaterThan m.asker (t1 + lookback m)) e rest
      → let bound = q.due + m.asker.ahead + m.late + answer_time m in
      WholeAmong m others (λ t. (t1 < t) × (t + m.delay ≤ bound)) → Passes m.asker bound e rest → AllPassed m others bound → RecoversBy m bound
  pub recovers-among : (m : Recovery) (others : List Side) (near far t1 t0 round j : ℕ) → EachSupposed m others t1 → t1 ≤ t0 → FirstAsks m t0 round
      → round ≤ j → LongRound m near j → Always (Between m near far) (begun m.asker) m.asker.later
      → (lost : List ℕ) → WholeAmong m others (λ t. (t0 < t) × (Memᴰ t lost → ⊥))
      → let k = length lost in
      let bound = t0 + (factor_sum (j + k) - factor_sum (round - 1)) * ((asker_params m).c1 + (asker_params m).c2) * far + (j + k) * m.late + answer_time m in
      Passed m.asker bound → AllPassed m others bound → RecoversBy m bound
  pub after_outage_among_lem : (m : Recovery) (others : List Side) (near far t1 t0 round f : ℕ) → EachSupposed m others t1 → FirstAsks m t0 round
      → t0 ≤ t1 + lookback m → Outlasts m near t1 t0 round f → Always (Between m near far) (begun m.asker) m.asker.later
      → let bound = t1 + lookback m + f * ((asker_params m).c1 + (asker_params m).c2) * far + m.late + answer_time m in
      WholeAmong m others (λ t. (t1 < t) × (t + m.delay ≤ bound)) → Passed m.asker bound → AllPassed m others bound → RecoversBy m bound
  -- Who hears a report of a cue that it lacks asks for it; what a Report, or a probe, puts out is such a report.
  pub detects : (e : End) (c : OneCall) (bytes : List ℕ) (s n : ℕ) → s < 8 → DrawsFit (c ∷ []) → Taken e c → c.action ≡ Arrival bytes
      → is_member e.status ≡ true → same_host (as_host s) e.host ≡ false → FromOther bytes e → Reports bytes s n
      → is_closed (source_at e (as_host s)).span ≡ false → is_below (source_at (after e c) (as_host s)).span n ≡ false → Knows (after e c) s n
  pub reports_it : (e : End) (c : OneCall) (bytes : List ℕ) (s n : ℕ) → s < 8 → reporting c.action → answer_of e c ≡ Did (Out bytes)
      → last_is_at_least (source_at e (as_host s)).span n → Reports bytes s n × ((meaning_from bytes).sender ≡ e.host)
  -- With a report in every P ticks from t0 on, i of them missed, the cue is held or asked for by t0 + (i+1)×P + Δ.
  pub detected : (m : Recovery) (x : Side) (period t0 : ℕ) → Listens m → same_host (opened x).host (opened m.asker).host ≡ false
      → (missed : List ℕ) → ReportsEvery m x period t0 (t0 + length missed * period) missed
      → Sometime (KnownBy m (t0 + length missed * period + period + m.delay)) (begun m.asker) m.asker.later
  -- An express wait whose XPRS names a holder that is not quiet: got by its due time + Λ + 2Δ.
  pub express-recovers : (m : Recovery) → BothStay m → (q : Request) (due : ℕ) → slot_of (begun m.asker) m.source m.number ≡ Waiting q (Soon due)
      → Always (ExpressInTime m) (begun m.asker) m.asker.later → Always (ExpressReaches m) (begun m.asker) m.asker.later
      → Always (ExpressReturns m) (begun m.holder) m.holder.later
      → let bound = due + m.asker.ahead + m.late + 2 * m.delay in
      Passed m.asker bound → RecoversBy m bound
  -- A network that carries what eight ends put out, but for losses, gives what is supposed of it.
  pub network_is_whole : (m : Recovery) (ends : Ends) (on : ℕ → Type 0) → Network m ends on → Whole m on
  -- In a list of calls on eight ends each end sees its own calls alone; what is claimed of these is claimed of the list.
  pub each_sees_its_own : (w : World) (cs : List Call) (h : ℕ) → (through w cs).ends h ≡ after_all (w.ends h) (calls_of h cs)
  pub side_is_end : (w : World) (f : Fresh w) (ahead : ℕ) (before behind : List Call) (h : ℕ) (hh : h < 8)
      → let x = side_of w f ahead before behind h hh in
      (begun x ≡ (through w before).ends h) × (after_all (begun x) x.later ≡ (through w (before ++ behind)).ends h)
  pub claims_carry_over : (P : Claim) (w : World) (cs : List Call) (h : ℕ)
      → (EachCall (λ v c. c.host ≡ h → P (v.ends h) (one_of c)) w cs → Always P (w.ends h) (calls_of h cs))
      × (Sometime P (w.ends h) (calls_of h cs) → SomeCall (λ v c. (c.host ≡ h) × P (v.ends h) (one_of c)) w cs)
  -- Timely recovery, of two ends and a reporter: from t0, with i reports missed and losses at k times, got by t0 + (i+1)×P + Δ, then
  -- (f(1)+..+f(J+k))×(C1+C2)×far + (J+k)×Λ and an answer's time; and with several holders.
  pub two_ends_recover : (m : Recovery) (x : Side) (near far period t0 j : ℕ) (missed lost : List ℕ)
      → TimelySupposed m x near far period t0 j missed lost → Whole m (λ t. (t0 < t) × (Memᴰ t lost → ⊥))
      → let k = length lost in
      RecoversBy m (t0 + length missed * period + period + m.delay + factor_sum (j + k) * ((asker_params m).c1 + (asker_params m).c2) * far + (j + k) * m.late
      + answer_time m)
  pub two_ends_recover_among : (m : Recovery) (others : List Side) (x : Side) (near far period t0 j : ℕ) (missed lost : List ℕ)
      → TimelySupposed m x near far period t0 j missed lost → EachSupposed m others t0 → WholeAmong m others (λ t. (t0 < t) × (Memᴰ t lost → ⊥))
      → let k = length lost in
      let bound = t0 + length missed * period + period + m.delay + factor_sum (j + k) * ((asker_params m).c1 + (asker_params m).c2) * far + (j + k) * m.late
      + answer_time m in
      AllPassed m others bound → RecoversBy m bound
  -- Nothing lost since t1, and asked later than t1 + lookback: got by t0 + (i+1)×P + Δ, then 2×(C1+C2)×far + Λ and an answer's time.
  pub two_ends_recover_steadily : (m : Recovery) (x : Side) (far period t1 t0 : ℕ) (missed : List ℕ)
      → SteadySupposed m x far period t1 t0 missed → Whole m (λ t. t1 < t)
      → RecoversBy m (t0 + length missed * period + period + m.delay + factor 2 * ((asker_params m).c1 + (asker_params m).c2) * far + m.late + answer_time m)
  -- 001's theorem 4.37, for every list of calls on eight ends: some call of the list hands out the cue at the asker by then. (That its bytes are the
  -- source's is demand 3.)
  pub timely-recovery : (p : Play) (near far period t0 j : ℕ) (missed lost : List ℕ)
      → let m = recovery_in p in
      TimelySupposed m (reporter_in p) near far period t0 j missed lost → Whole m (λ t. (t0 < t) × (Memᴰ t lost → ⊥))
      → let k = length lost in
      HandedOutBy p (t0 + length missed * period + period + m.delay + factor_sum (j + k) * ((asker_params m).c1 + (asker_params m).c2) * far
      + (j + k) * m.late + answer_time m)
  pub steady-recovery : (p : Play) (far period t1 t0 : ℕ) (missed : List ℕ)
      → let m = recovery_in p in
      SteadySupposed m (reporter_in p) far period t1 t0 missed → Whole m (λ t. t1 < t)
      → HandedOutBy p (t0 + length missed * period + period + m.delay + factor 2 * ((asker_params m).c1 + (asker_params m).c2) * far + m.late + answer_time m)
  -- So too over a network that carries what eight ends put out, but for losses; here those of others' requests and repairs count as well.
  pub timely_over_network : (p : Play) (near far period t0 j : ℕ) (missed lost : List ℕ)
      → let m = recovery_in p in
      TimelySupposed m (reporter_in p) near far period t0 j missed lost → Network m (sides_in p) (λ t. (t0 < t) × (Memᴰ t lost → ⊥))
      → let k = length lost in
      HandedOutBy p (t0 + length missed * period + period + m.delay + factor_sum (j + k) * ((asker_params m).c1 + (asker_params m).c2) * far
      + (j + k) * m.late + answer_time m)
  pub steady_over_network : (p : Play) (far period t1 t0 : ℕ) (missed : List ℕ)
      → let m = recovery_in p in
      SteadySupposed m (reporter_in p) far period t1 t0 missed → Network m (sides_in p) (λ t. t1 < t)
      → HandedOutBy p (t0 + length missed * period + period + m.delay + factor 2 * ((asker_params m).c1 + (asker_params m).c2) * far + m.late + answer_time m)
  -- For each main statement a computed list in which all that it supposes holds, most of them got at the very bound. And lists in which one thing alone
  -- fails and the cue is not got by the bound: for what `answered` supposes of the ends and the network, and for what `steady`, `recovers`, `after-outage`,
  -- `detected` and `express-recovers` suppose of their own; which things have none is said at the lists.
  pub rows : RowsShown
