-- The statements of the crate recovery as lists of what they suppose: so that a computed list of calls can be said to meet all of it, or all but one thing.
use Rattle.std.specs.Prelude.{◌≡◌, true, false, ℕ, suc, ◌+◌, ◌*◌, ◌≤◌, ◌<◌, min, length}
use mathlib.Core.List.{List, [], ◌∷◌, ◌++◌, Memᴰ}
use Rattle.std.proofs.Math.Option.{none, some}
use Rattle.message.specs.Entry.{as_host}
use Rattle.message.specs.Question.{same_host}
use Rattle.end.specs.declared.Request.{Request}
use Rattle.end.specs.State.{source_at, distance_to}
use Rattle.end.specs.Records.{is_closed, is_held}
use Rattle.end.specs.Round.{factor}
use Rattle.guarantees.specs.Calls.{OneCall, after, after_all}
use Rattle.guarantees.specs.Records.{slot_of, request_of}
use Rattle.guarantees.specs.BackOff.{DrawsFit}
use Rattle.guarantees.specs.Turn.{Always, NeitherLeavesNorCrashes}
use Rattle.cases.specs.Turn.{All, AllBut}
use Rattle.recovery.specs.Recovery.{opened, begun, time_of, Recovery, asker_params, lookback, reply_time, UpTo, LaterThan, Passes, Passed, RecoversBy}
use Rattle.recovery.specs.Supposed.{AsksInTime, RepliesInTime, Keeps, Reaches, Settled}
use Rattle.recovery.specs.Whole.{RequestsReach, RequestsShared, RepairsReach, RepairsShared}
use Rattle.recovery.specs.Answered.{answered_by, steady_by}
use Rattle.recovery.specs.Losses.{Between, FirstAsks, losses_by}
use Rattle.recovery.specs.Outage.{Outlasts, outage_by}

-- ---- what is supposed of the two ends (`Supposed`), places 0 to 17
abbrev pub ends_suppose : Recovery → ℕ → List (Type 0)
ends_suppose m t1 =
    (m.source < 8)
    ∷ (same_host (opened m.asker).host (opened m.holder).host ≡ false)
    ∷ (same_host (as_host m.source) (opened m.asker).host ≡ false)
    ∷ Always (UpTo m.asker t1) (opened m.asker) m.asker.earlier
    ∷ Always (UpTo m.holder t1) (opened m.holder) m.holder.earlier
    ∷ (is_closed (source_at (begun m.asker) (as_host m.source)).span ≡ false)
    ∷ (is_held (slot_of (begun m.asker) m.source m.number) ≡ false)
    ∷ (is_held (slot_of (begun m.holder) m.source m.number) ≡ true)
    ∷ DrawsFit m.asker.later
    ∷ DrawsFit m.holder.later
    ∷ Always NeitherLeavesNorCrashes (begun m.asker) m.asker.later
    ∷ Always NeitherLeavesNorCrashes (begun m.holder) m.holder.later
    ∷ Always (Keeps m) (begun m.asker) m.asker.later
    ∷ Always (Keeps m) (begun m.holder) m.holder.later
    ∷ Always (AsksInTime m) (begun m.asker) m.asker.later
    ∷ Always (RepliesInTime m) (begun m.holder) m.holder.later
    ∷ Settled m (begun m.holder)
    ∷ Always (Reaches m) (begun m.holder) m.holder.later
    ∷ []

-- ---- of the network (`Whole`), places 18 to 21
abbrev pub network_supposes : Recovery → (ℕ → Type 0) → List (Type 0)
network_supposes m on =
    Always (RequestsReach m on) (begun m.asker) m.asker.later
    ∷ Always (RequestsShared m on) (begun m.asker) m.asker.later
    ∷ Always (RepairsReach m on) (begun m.holder) m.holder.later
    ∷ Always (RepairsShared m on) (begun m.holder) m.holder.later
    ∷ []

-- ---- a statement on a recovery

-- What it supposes of the ends at t1 and of the network at the times that `on` names, what it supposes besides, and the time by which the cue is got.
pub record Statement : Type 1 where
  pub recovery : Recovery
  pub t1 : ℕ
  pub on : ℕ → Type 0
  pub own : List (Type 0)
  pub by : ℕ

abbrev pub supposes : Statement → List (Type 0)
supposes s = ends_suppose s.recovery s.t1 ++ (network_supposes s.recovery s.on ++ s.own)

abbrev pub claims : Statement → Type 0
claims s = RecoversBy s.recovery s.by

-- All that it supposes holds; its claim holds, as the theorem says; and the cue is not got by t. Where t + 1 is the bound, the bound is met exactly.
pub record Met (s : Statement) (t : ℕ) : Type 0 where
  pub holds : All (supposes s)
  pub reached : claims s
  pub no_sooner : RecoversBy s.recovery t → ⊥

-- What it supposes at place i fails, all else that it supposes holds, and so does not its claim.
pub record Needed (i : ℕ) (s : Statement) : Type 0 where
  pub alone : AllBut i (supposes s)
  pub missed : claims s → ⊥

-- The same of a statement of another shape: all that it supposes, what it claims, and what would be sooner.
pub record Reached (supposed : List (Type 0)) (claim sooner : Type 0) : Type 0 where
  pub holds : All supposed
  pub reached : claim
  pub no_sooner : sooner → ⊥

pub record Missed (i : ℕ) (supposed : List (Type 0)) (claim : Type 0) : Type 0 where
  pub alone : AllBut i supposed
  pub missed : claim → ⊥

-- ---- `Answered`: places 22 to 25
pub record OneRound : Type 0 where
  pub recovery : Recovery
  pub t1 : ℕ
  pub mid : List OneCall
  pub rest : List OneCall
  pub parts : recovery.asker.later ≡ mid ++ rest
  pub request : Request

abbrev pub answering : OneRound → Statement
answering r =
    let m = r.recovery in
    let e = after_all (begun m.asker) r.mid in
    let bound = answered_by m r.request in
    record {
      recovery = m;
      t1 = r.t1;
      on = λ t. (r.t1 < t) × (t + m.delay ≤ bound);
      own = (request_of e m.source m.number ≡ some r.request)
          ∷ Always (LaterThan m.asker (r.t1 + lookback m)) e r.rest
          ∷ Passes m.asker bound e r.rest
          ∷ Passed m.holder bound
          ∷ [];
      by = bound;
    }

-- ---- `Steady`: places 22 to 27
pub record Steadily : Type 0 where
  pub recovery : Recovery
  pub t1 : ℕ
  pub far : ℕ
  pub mid : List OneCall
  pub call : OneCall
  pub rest : List OneCall
  pub parts : recovery.asker.later ≡ mid ++ (call ∷ rest)
  pub request : Request

abbrev pub steadying : Steadily → Statement
steadying r =
    let m = r.recovery in
    let e = after_all (begun m.asker) r.mid in
    let bound = steady_by m r.far (time_of m.asker r.call) r.request.round in
    record {
      recovery = m;
      t1 = r.t1;
      on = λ t. (r.t1 < t) × (t + m.delay ≤ bound);
      own = (request_of e m.source m.number ≡ none)
          ∷ (request_of (after e r.call) m.source m.number ≡ some r.request)
          ∷ (distance_to e (as_host m.source) ≤ r.far)
          ∷ (r.t1 + lookback m < time_of m.asker r.call)
          ∷ Passes m.asker bound (after e r.call) r.rest
          ∷ Passed m.holder bound
          ∷ [];
      by = bound;
    }

-- ---- `Recovers`: places 22 to 29; `LongRound` as its two parts
pub record Rounds : Type 0 where
  pub recovery : Recovery
  pub near : ℕ
  pub far : ℕ
  pub t1 : ℕ
  pub t0 : ℕ
  pub round : ℕ
  pub j : ℕ
  pub lost : List ℕ

abbrev pub recovering : Rounds → Statement
recovering r =
    let m = r.recovery in
    let bound = losses_by m r.far r.t0 r.round (r.j + length r.lost) in
    record {
      recovery = m;
      t1 = r.t1;
      on = λ t. (r.t0 < t) × (Memᴰ t r.lost → ⊥);
      own = (r.t1 ≤ r.t0)
          ∷ FirstAsks m r.t0 r.round
          ∷ (r.round ≤ r.j)
          ∷ (lookback m ≤ factor (min r.j 16) * (asker_params m).c3 * r.near)
          ∷ (lookback m + m.delay + reply_time m ≤ factor (min (suc r.j) 16) * (asker_params m).c3 * r.near)
          ∷ Always (Between m r.near r.far) (begun m.asker) m.asker.later
          ∷ Passed m.asker bound
          ∷ Passed m.holder bound
          ∷ [];
      by = bound;
    }

-- ---- `AfterOutage`: places 22 to 27
pub record Outage : Type 0 where
  pub recovery : Recovery
  pub near : ℕ
  pub far : ℕ
  pub t1 : ℕ
  pub t0 : ℕ
  pub round : ℕ
  pub f : ℕ

abbrev pub outlasting : Outage → Statement
outlasting r =
    let m = r.recovery in
    let bound = outage_by m r.far r.t1 r.f in
    record {
      recovery = m;
      t1 = r.t1;
      on = λ t. (r.t1 < t) × (t + m.delay ≤ bound);
      own = FirstAsks m r.t0 r.round
          ∷ (r.t0 ≤ r.t1 + lookback m)
          ∷ Outlasts m r.near r.t1 r.t0 r.round r.f
          ∷ Always (Between m r.near r.far) (begun m.asker) m.asker.later
          ∷ Passed m.asker bound
          ∷ Passed m.holder bound
          ∷ [];
      by = bound;
    }
