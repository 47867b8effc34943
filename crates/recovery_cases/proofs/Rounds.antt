-- The lists of specs/Rounds.antt: what is supposed of them is computed by the tests; that all of it suffices is `Steady`, `Recovers` or `AfterOutage`.
use Prim.Native.Nat.{ℕ, suc, ◌+◌, ◌-◌, ◌*◌, ◌≤◌, ◌<◌, min}
use native.Mathlib.Omega.{arith}
use mathlib.Core.Path.{◌≡◌, refl, subst}
use mathlib.Core.Bool.{Bool, true, false, not, ◌&&◌, ◌||◌}
use mathlib.Core.List.{List, [], ◌∷◌, ◌++◌, Memᴰ}
use mathlib.Core.Option.{none, some as just}
use mathlib.Core.Logic.{⊎_elim}
use lib.Dec.{eqb, leb, ltb}
use borrow.Author.Tests.{eqb-true, leb-true, ltb-true, lt-ltb, le-leb}
use Rattle.message.specs.Entry.{as_host}
use Rattle.message.proofs.QuestionLaws.{or_either}
use Rattle.end.specs.declared.Request.{Request}
use Rattle.end.specs.declared.End.{End}
use Rattle.end.specs.State.{distance_to}
use Rattle.end.specs.Sound.{all_below}
use Rattle.end.specs.Round.{factor}
use Rattle.end.proofs.SoundLaws.{all-at}
use Rattle.end.proofs.Tools.{by_test, clash'}
use Rattle.guarantees.specs.Calls.{OneCall}
use Rattle.guarantees.specs.Records.{request_of}
use Rattle.guarantees.specs.Turn.{Taken}
use Rattle.cases.specs.Turn.{All}
use Rattle.recovery.specs.Recovery.{begun, time_of, Recovery, asker_params, lookback, reply_time, Passes}
use Rattle.recovery.specs.Supposed.{Supposed}
use Rattle.recovery.specs.Whole.{Whole}
use Rattle.recovery.specs.Losses.{Between, FirstAsks}
use Rattle.recovery.specs.Outage.{Outlasts}
use Rattle.recovery.proofs.Lists.{after-parts}
use Rattle.recovery.proofs.Steady.{steady}
use Rattle.recovery.proofs.Losses.{recovers}
use Rattle.recovery.proofs.Outage.{after-outage}
use Rattle.recovery_cases.specs.Needs.{claims, Met, Needed, Steadily, steadying, Rounds, recovering, Outage, outlasting}
use Rattle.recovery_cases.specs.Calls.{at, slow, cue, request}
use Rattle.recovery_cases.specs.Rounds.{steady as steadyList, steady_farther, too_soon, held_later, second_round, asked_later, outage_farther}
use Rattle.recovery_cases.specs.Rounds.{starved_by_requests, starved_by_repairs, loss_rounds, loss_outage, outage_longer, quiet_too_short}
use Rattle.recovery_cases.specs.Rounds.{nearer_than, farther_than, next_too_short, RoundsShown}
use Rattle.recovery_cases.proofs.Log.{given, log, every, some, Fit, fits, Logs, logs, at_place, at-place, after-place, always_behind, sometime_rest}
use Rattle.recovery_cases.proofs.Tests.{holds_if, passes, passes-shows, between_test, between-shows, got_by}
use Rattle.recovery_cases.proofs.Backed.{chain6, chain8, Backed, all_true_lem, all_but_lem, SideFits, side-fits, asker-passed, holder-passed, tests_of, met, needed}
use Rattle.recovery_cases.proofs.Computed.{computed}

-- ---- `Steady`
steady-suffices : (r : Steadily) → Supposed r.recovery r.t1 → Whole r.recovery (steadying r).on → All (steadying r).own → claims (steadying r)
steady-suffices r s w (none_yet, (waits, (near, (late, (passed, (holder-passes, _)))))) =
    (steady r.recovery r.t1 r.far s r.mid r.call r.rest r.parts r.request none_yet waits near late w passed holder-passes).1

-- the call asks for the cue where no request waited
abbrev Asks : Recovery → List OneCall → OneCall → Request → Type 0
Asks m mid c q = (request_of (at_place m.asker mid) m.source m.number ≡ none)
    × (request_of (given (at_place m.asker mid) c).left m.source m.number ≡ just q)

abbrev steady_when : Steadily → ℕ → Bool
steady_when r t = ltb r.t1 t && leb (t + r.recovery.delay) (steadying r).by

steady-says : (r : Steadily) (t : ℕ) → (steadying r).on t → steady_when r t ≡ true
steady-says r t on = rw (lt-ltb r.t1 t on.0, le-leb (t + r.recovery.delay) (steadying r).by on.1) refl

abbrev steady_own : Steadily → Logs → Logs → List Bool
steady_own r a h =
    let m = r.recovery in
    true
    ∷ true
    ∷ leb (distance_to (at_place m.asker r.mid) (as_host m.source)) r.far
    ∷ ltb (r.t1 + lookback m) (time_of m.asker r.call)
    ∷ some (passes m.asker (steadying r).by) (log (at_place m.asker (r.mid ++ (r.call ∷ []))) r.rest)
    ∷ some (passes m.holder (steadying r).by) h.behind
    ∷ []

module _ (r : Steadily) (fa : SideFits r.recovery.asker) (fh : SideFits r.recovery.holder) (fm : Fit r.mid) (fc : Fit (r.mid ++ (r.call ∷ [])))
    (fr : Fit r.rest) (asks : Asks r.recovery r.mid r.call r.request) where
  steady_backed : Backed (steadying r).own (steady_own r (logs r.recovery.asker) (logs r.recovery.holder))
  steady_backed =
      let m = r.recovery in
      let x = m.asker in
      let bound = (steadying r).by in
      chain6
      (λ _. at-place x fa.earlier fa.later r.mid fm (λ (e : End). request_of e m.source m.number ≡ none) asks.0)
      (λ _. after-place x fa.earlier fa.later r.mid fm r.call (λ (e : End). request_of e m.source m.number ≡ just r.request) asks.1)
      (λ h. at-place x fa.earlier fa.later r.mid fm (λ (e : End). distance_to e (as_host m.source) ≤ r.far) (leb-true _ _ h))
      (ltb-true _ _)
      (λ h. subst (λ (e : End). Passes x bound e r.rest) (after-parts r.mid (r.call ∷ []) (begun x))
      (sometime_rest x fa.earlier fa.later (r.mid ++ (r.call ∷ [])) fc (λ e c. Taken e c × (bound < time_of x c)) (passes x bound) r.rest fr
      (passes-shows x bound) h))
      (holder-passed m fa fh bound)

  is-steady : (t : ℕ) → all_true_lem (tests_of (steadying r) (steady_when r) (steady_own r) (logs r.recovery.asker) (logs r.recovery.holder)) ≡ true
      → every (λ x. not (got_by r.recovery t x)) (logs r.recovery.asker).behind ≡ true → Met (steadying r) t
  is-steady = met (steadying r) (steady-suffices r) (steady_when r) (steady-says r) (steady_own r) fa fh steady_backed

  steady_needs : (i : ℕ) → all_but_lem i (tests_of (steadying r) (steady_when r) (steady_own r) (logs r.recovery.asker) (logs r.recovery.holder)) ≡ true
      → every (λ x. not (got_by r.recovery (steadying r).by x)) (logs r.recovery.asker).behind ≡ true → Needed i (steadying r)
  steady_needs = needed (steadying r) (steady-suffices r) (steady_when r) (steady-says r) (steady_own r) fa fh steady_backed

-- ---- a list of times
abbrev pub among : ℕ → List ℕ → Bool
among t [] = false
among t (u ∷ us) = eqb t u || among t us

pub is_among : (t : ℕ) (us : List ℕ) → among t us ≡ true → Memᴰ t us
is_among t [] h = clash' h
is_among t (u ∷ us) h = ⊎_elim (λ a. Memᴰ.head (eqb-true t u a)) (λ a. Memᴰ.tail (is_among t us a)) (or_either (eqb t u) (among t us) h)

pub not-among : (t : ℕ) (us : List ℕ) → (Memᴰ t us → ⊥) → not (among t us) ≡ true
not-among t us out = by_test (among t us) (λ a. absurd (out (is_among t us a))) (λ a i. not (a i))

-- ---- the first of its later calls by which the asker asks for the cue
pub first-asks : (m : Recovery) → SideFits m.asker → (call : OneCall) (rest : List OneCall) (q : Request) → m.asker.later ≡ call ∷ rest → Asks m [] call q
    → FirstAsks m (time_of m.asker call) q.round
first-asks m fa call rest q parts asks = record {
  mid = [];
  call = call;
  rest = rest;
  parts = parts;
  none_yet = at-place m.asker fa.earlier fa.later [] (tt, tt) (λ (e : End). request_of e m.source m.number ≡ none) asks.0;
  request = q;
  waits = after-place m.asker fa.earlier fa.later [] (tt, tt) call (λ (e : End). request_of e m.source m.number ≡ just q) asks.1;
  round_is = refl;
  time = refl;
}

-- ---- `Recovers`
recovers-suffices : (r : Rounds) → Supposed r.recovery r.t1 → Whole r.recovery (recovering r).on → All (recovering r).own → claims (recovering r)
recovers-suffices r s w (after-t1, (first, (round, (quiet, (next, (distances, (passed, (holder-passes, _)))))))) =
    recovers r.recovery r.near r.far r.t1 r.t0 r.round r.j s after-t1 first round (record { quiet = quiet; next = next }) distances
    r.lost w passed holder-passes

abbrev recovers_when : Rounds → ℕ → Bool
recovers_when r t = ltb r.t0 t && not (among t r.lost)

recovers-says : (r : Rounds) (t : ℕ) → (recovering r).on t → recovers_when r t ≡ true
recovers-says r t on = rw (lt-ltb r.t0 t on.0, not-among t r.lost on.1) refl

abbrev recovers_own : Rounds → Logs → Logs → List Bool
recovers_own r a h =
    let m = r.recovery in
    leb r.t1 r.t0
    ∷ true
    ∷ leb r.round r.j
    ∷ leb (lookback m) (factor (min r.j 16) * (asker_params m).c3 * r.near)
    ∷ leb (lookback m + m.delay + reply_time m) (factor (min (suc r.j) 16) * (asker_params m).c3 * r.near)
    ∷ every (between_test m r.near r.far) a.behind
    ∷ some (passes m.asker (recovering r).by) a.behind
    ∷ some (passes m.holder (recovering r).by) h.behind
    ∷ []

module _ (r : Rounds) (fa : SideFits r.recovery.asker) (fh : SideFits r.recovery.holder) (first : FirstAsks r.recovery r.t0 r.round) where
  recovers_backed : Backed (recovering r).own (recovers_own r (logs r.recovery.asker) (logs r.recovery.holder))
  recovers_backed =
      let m = r.recovery in
      chain8
      (leb-true _ _)
      (λ _. first)
      (leb-true _ _)
      (leb-true _ _)
      (leb-true _ _)
      (always_behind m.asker fa.earlier fa.later (Between m r.near r.far) (between_test m r.near r.far)
      (between-shows m r.near r.far))
      (asker-passed m fa fh (recovering r).by)
      (holder-passed m fa fh (recovering r).by)

  does_recover : (t : ℕ) → all_true_lem (tests_of (recovering r) (recovers_when r) (recovers_own r) (logs r.recovery.asker) (logs r.recovery.holder)) ≡ true
      → every (λ x. not (got_by r.recovery t x)) (logs r.recovery.asker).behind ≡ true → Met (recovering r) t
  does_recover = met (recovering r) (recovers-suffices r) (recovers_when r) (recovers-says r) (recovers_own r) fa fh recovers_backed

  recovers_needs : (i : ℕ) → all_but_lem i (tests_of (recovering r) (recovers_when r) (recovers_own r) (logs r.recovery.asker) (logs r.recovery.holder)) ≡ true
      → every (λ x. not (got_by r.recovery (recovering r).by x)) (logs r.recovery.asker).behind ≡ true → Needed i (recovering r)
  recovers_needs = needed (recovering r) (recovers-suffices r) (recovers_when r) (recovers-says r) (recovers_own r) fa fh recovers_backed

-- ---- `AfterOutage`
outage-suffices : (r : Outage) → Supposed r.recovery r.t1 → Whole r.recovery (outlasting r).on → All (outlasting r).own → claims (outlasting r)
outage-suffices r s w (first, (by, (lasts, (distances, (passed, (holder-passes, _)))))) =
    after-outage r.recovery r.near r.far r.t1 r.t0 r.round r.f s first by lasts distances w passed holder-passes

-- each round up to 16
abbrev pub outlasts : Recovery → ℕ → ℕ → ℕ → ℕ → ℕ → Bool
outlasts m near t1 t0 round f = all_below (λ i. not (leb round i)
    || (not (leb (t0 + (factor i - factor round) * (asker_params m).c3 * near) (t1 + lookback m)) || leb (factor i) f)) 17

pub outlasts-shows : (m : Recovery) (near t1 t0 round f : ℕ) → outlasts m near t1 t0 round f ≡ true → Outlasts m near t1 t0 round f
outlasts-shows m near t1 t0 round f h i least most by = leb-true (factor i) f
    (holds_if _ _ (holds_if _ _ (all-at _ 17 i h (omega arith)) (le-leb round i least)) (le-leb _ (t1 + lookback m) by))

abbrev outage_when : Outage → ℕ → Bool
outage_when r t = ltb r.t1 t && leb (t + r.recovery.delay) (outlasting r).by

outage-says : (r : Outage) (t : ℕ) → (outlasting r).on t → outage_when r t ≡ true
outage-says r t on = rw (lt-ltb r.t1 t on.0, le-leb (t + r.recovery.delay) (outlasting r).by on.1) refl

abbrev outage_own : Outage → Logs → Logs → List Bool
outage_own r a h =
    let m = r.recovery in
    true
    ∷ leb r.t0 (r.t1 + lookback m)
    ∷ outlasts m r.near r.t1 r.t0 r.round r.f
    ∷ every (between_test m r.near r.far) a.behind
    ∷ some (passes m.asker (outlasting r).by) a.behind
    ∷ some (passes m.holder (outlasting r).by) h.behind
    ∷ []

module _ (r : Outage) (fa : SideFits r.recovery.asker) (fh : SideFits r.recovery.holder) (first : FirstAsks r.recovery r.t0 r.round) where
  outage_backed : Backed (outlasting r).own (outage_own r (logs r.recovery.asker) (logs r.recovery.holder))
  outage_backed =
      let m = r.recovery in
      chain6
      (λ _. first)
      (leb-true _ _)
      (outlasts-shows m r.near r.t1 r.t0 r.round r.f)
      (always_behind m.asker fa.earlier fa.later (Between m r.near r.far) (between_test m r.near r.far)
      (between-shows m r.near r.far))
      (asker-passed m fa fh (outlasting r).by)
      (holder-passed m fa fh (outlasting r).by)

  does_outlast : (t : ℕ) → all_true_lem (tests_of (outlasting r) (outage_when r) (outage_own r) (logs r.recovery.asker) (logs r.recovery.holder)) ≡ true
      → every (λ x. not (got_by r.recovery t x)) (logs r.recovery.asker).behind ≡ true → Met (outlasting r) t
  does_outlast = met (outlasting r) (outage-suffices r) (outage_when r) (outage-says r) (outage_own r) fa fh outage_backed

  outage_needs : (i : ℕ) → all_but_lem i (tests_of (outlasting r) (outage_when r) (outage_own r) (logs r.recovery.asker) (logs r.recovery.holder)) ≡ true
      → every (λ x. not (got_by r.recovery (outlasting r).by x)) (logs r.recovery.asker).behind ≡ true → Needed i (outlasting r)
  outage_needs = needed (outlasting r) (outage-suffices r) (outage_when r) (outage-says r) (outage_own r) fa fh outage_backed

-- ---- the lists
steady_met : Met (steadying steadyList) 1419
unfolding computed
steady_met =
    let m = steadyList.recovery in
    is-steady steadyList (side-fits m.asker refl) (side-fits m.holder refl) (tt, tt) (fits (steadyList.call ∷ []) refl) (fits steadyList.rest refl)
    (refl, refl) 1419 refl refl

loss_met : Met (recovering loss_rounds) 2091
unfolding computed
loss_met =
    let m = loss_rounds.recovery in
    let fa = side-fits m.asker refl in
    does_recover loss_rounds fa (side-fits m.holder refl)
    (first-asks m fa (slow 32 (cue 2)) _ (record { round = 1; due = 712; quiet = 352 }) refl (refl, refl)) 2091 refl refl

outage_met : Met (outlasting loss_outage) 2091
unfolding computed
outage_met =
    let m = loss_outage.recovery in
    let fa = side-fits m.asker refl in
    does_outlast loss_outage fa (side-fits m.holder refl)
    (first-asks m fa (slow 32 (cue 2)) _ (record { round = 1; due = 712; quiet = 352 }) refl (refl, refl)) 2091 refl refl

needed_steady_far : Needed 24 (steadying steady_farther)
unfolding computed
needed_steady_far =
    let m = steady_farther.recovery in
    steady_needs steady_farther (side-fits m.asker refl) (side-fits m.holder refl) (tt, tt) (fits (steady_farther.call ∷ []) refl)
    (fits steady_farther.rest refl) (refl, refl) 24 refl refl

needed_steady_late : Needed 25 (steadying too_soon)
unfolding computed
needed_steady_late =
    let m = too_soon.recovery in
    steady_needs too_soon (side-fits m.asker refl) (side-fits m.holder refl) (tt, tt) (fits (too_soon.call ∷ []) refl)
    (fits too_soon.rest refl) (refl, refl) 25 refl refl

needed_held_at_first : Needed 22 (recovering held_later)
unfolding computed
needed_held_at_first =
    let m = held_later.recovery in
    let fa = side-fits m.asker refl in
    recovers_needs held_later fa (side-fits m.holder refl)
    (first-asks m fa (slow 32 (cue 2)) _ (record { round = 1; due = 712; quiet = 352 }) refl (refl, refl)) 22 refl refl

needed_first_round : Needed 24 (recovering second_round)
unfolding computed
needed_first_round =
    let m = second_round.recovery in
    let fa = side-fits m.asker refl in
    recovers_needs second_round fa (side-fits m.holder refl)
    (first-asks m fa (slow 32 (request 2 31)) _ (record { round = 2; due = 1392; quiet = 672 }) refl (refl, refl)) 24 refl refl

needed_quiet : Needed 25 (recovering quiet_too_short)
unfolding computed
needed_quiet =
    let m = quiet_too_short.recovery in
    let fa = side-fits m.asker refl in
    recovers_needs quiet_too_short fa (side-fits m.holder refl)
    (first-asks m fa (at 800 (cue 2)) _ (record { round = 1; due = 1556; quiet = 1136 }) refl (refl, refl)) 25 refl refl

needed_near : Needed 27 (recovering nearer_than)
unfolding computed
needed_near =
    let m = nearer_than.recovery in
    let fa = side-fits m.asker refl in
    recovers_needs nearer_than fa (side-fits m.holder refl)
    (first-asks m fa (at 800 (cue 2)) _ (record { round = 1; due = 1556; quiet = 1136 }) refl (refl, refl)) 27 refl refl

needed_far : Needed 27 (recovering farther_than)
unfolding computed
needed_far =
    let m = farther_than.recovery in
    let fa = side-fits m.asker refl in
    recovers_needs farther_than fa (side-fits m.holder refl)
    (first-asks m fa (at 8010 (cue 2)) _ (record { round = 1; due = 17010; quiet = 12010 }) refl (refl, refl)) 27 refl refl

needed_next : Needed 26 (recovering next_too_short)
unfolding computed
needed_next =
    let m = next_too_short.recovery in
    let fa = side-fits m.asker refl in
    recovers_needs next_too_short fa (side-fits m.holder refl)
    (first-asks m fa (at 800 (cue 2)) _ (record { round = 1; due = 890; quiet = 840 }) refl (refl, refl)) 26 refl refl

needed_outlasts : Needed 24 (outlasting outage_longer)
unfolding computed
needed_outlasts =
    let m = outage_longer.recovery in
    let fa = side-fits m.asker refl in
    outage_needs outage_longer fa (side-fits m.holder refl)
    (first-asks m fa (slow 32 (cue 2)) _ (record { round = 1; due = 712; quiet = 352 }) refl (refl, refl)) 24 refl refl

needed_shared_requests : Needed 19 (recovering starved_by_requests)
unfolding computed
needed_shared_requests =
    let m = starved_by_requests.recovery in
    let fa = side-fits m.asker refl in
    recovers_needs starved_by_requests fa (side-fits m.holder refl)
    (first-asks m fa (at 32 (cue 2)) _ (record { round = 1; due = 392; quiet = 192 }) refl (refl, refl)) 19 refl refl

needed_shared_repairs : Needed 21 (recovering starved_by_repairs)
unfolding computed
needed_shared_repairs =
    let m = starved_by_repairs.recovery in
    let fa = side-fits m.asker refl in
    recovers_needs starved_by_repairs fa (side-fits m.holder refl)
    (first-asks m fa (at 32 (cue 2)) _ (record { round = 1; due = 392; quiet = 192 }) refl (refl, refl)) 21 refl refl

needed_asked_by : Needed 23 (outlasting asked_later)
unfolding computed
needed_asked_by =
    let m = asked_later.recovery in
    let fa = side-fits m.asker refl in
    outage_needs asked_later fa (side-fits m.holder refl)
    (first-asks m fa (slow 500 (cue 2)) _ (record { round = 1; due = 1180; quiet = 820 }) refl (refl, refl)) 23 refl refl

needed_outage_far : Needed 25 (outlasting outage_farther)
unfolding computed
needed_outage_far =
    let m = outage_farther.recovery in
    let fa = side-fits m.asker refl in
    outage_needs outage_farther fa (side-fits m.holder refl)
    (first-asks m fa (at 8010 (cue 2)) _ (record { round = 1; due = 17010; quiet = 12010 }) refl (refl, refl)) 25 refl refl

pub rounds-shown : RoundsShown
rounds-shown = record {
  steady = steady_met;
  loss = loss_met;
  outage = outage_met;
  steady-far = needed_steady_far;
  steady-late = needed_steady_late;
  held_at_first = needed_held_at_first;
  first_round = needed_first_round;
  quiet = needed_quiet;
  next = needed_next;
  near = needed_near;
  far = needed_far;
  shared_requests = needed_shared_requests;
  shared_repairs = needed_shared_repairs;
  asked_by = needed_asked_by;
  outlasts = needed_outlasts;
  outage-far = needed_outage_far;
}
