-- The lists of specs/Plays.antt, on eight ends: what is supposed of them is computed by the tests, and what is claimed is the theorem's.
use Prim.Native.Nat.{ℕ, ◌+◌, ◌<◌}
use native.Mathlib.Omega.{arith}
use mathlib.Core.Path.{◌≡◌, refl, ap}
use mathlib.Core.Bool.{Bool, true, false, not, ◌&&◌, ◌||◌}
use mathlib.Core.List.{[], ◌∷◌}
use mathlib.Core.Logic.{inr}
use mathlib.Core.Option.{Option, none, some as just}
use lib.Dec.{ltb}
use borrow.Author.Tests.{leb-true, ltb-true, lt-ltb}
use Rattle.end.specs.declared.End.{End}
use Rattle.end.specs.declared.Request.{Request}
use Rattle.end.proofs.Tools.{clash, or_alone}
use Rattle.guarantees.specs.Records.{request_of}
use Rattle.cases.proofs.Opened.{opened as opens-all}
use Rattle.recovery.specs.Recovery.{Side, opened, all, time_of, Recovery, lookback, LaterThan, RecoversBy}
use Rattle.recovery.specs.Supposed.{Supposed}
use Rattle.recovery.specs.Whole.{RequestsReach, RepairsReach, Whole}
use Rattle.recovery.specs.Losses.{Between}
use Rattle.recovery.specs.Network.{is_request, is_repair_of, CarriesRepairs, NewRequests, NewRepairs, Network}
use Rattle.recovery.specs.Timely.{Spared, timely_by, TimelySupposed, AsksAfter, timely_steady_by, SteadySupposed, sides_in, recovery_in, reporter_in, HandedOutBy}
use Rattle.recovery.proofs.Lists.{always_weaken}
use Rattle.recovery.proofs.Network.{network_is_whole}
use Rattle.recovery.proofs.Timely.{timely_over_network, steady_over_network}
use Rattle.recovery_cases.specs.Needs.{Reached, ends_suppose}
use Rattle.recovery_cases.specs.Plays.{Opens, crash, crash_supposes, calm, calm_supposes, PlaysShown}
use Rattle.recovery_cases.proofs.Log.{log, every, Test, Fit, fit, fits, logs, at-start, always_behind}
use Rattle.recovery_cases.proofs.Tests.{Shows, holds_if, later_than, later_than_shows, between_test, between-shows, requests_reach}
use Rattle.recovery_cases.proofs.Tests.{requests_reach_shows, repairs_reach, repairs_reach_shows}
use Rattle.recovery_cases.proofs.Backed.{all_hold, ends_tests, SideFits, side-fits, ends_backed, asker-passed, holder-passed, not-got, supposed_of}
use Rattle.recovery_cases.proofs.Rounds.{among, not-among}
use Rattle.recovery_cases.proofs.Reports.{reports_every}
use Rattle.recovery_cases.proofs.Networks.{eight, carries, Carried, carried-by, newly, newly_shows}
use Rattle.recovery_cases.proofs.Computed.{computed}

house-opens : Opens
unfolding opens-all
house-opens h hh = rw (lt-ltb h 8 hh)

-- ---- the source crashes
module _ (opens : Opens) where
  abbrev m : Recovery
  m = recovery_in (crash opens)

  abbrev end : (k : ℕ) → k < 8 → Side
  end = sides_in (crash opens)

  asker-fits : SideFits m.asker
  unfolding computed
  asker-fits = side-fits m.asker refl

  holder-fits : SideFits m.holder
  unfolding computed
  holder-fits = side-fits m.holder refl

  supposed : Supposed m 30
  unfolding computed
  supposed = supposed_of m 30 (all_hold (ends_suppose m 30) (ends_tests m 30 (logs m.asker) (logs m.holder)) (ends_backed m asker-fits holder-fits 30) refl)

  crash-supposed : TimelySupposed m (reporter_in (crash opens)) 40 40 100 30 3 (130 ∷ []) (660 ∷ [])
  unfolding computed
  crash-supposed =
      let x = m.asker in
      let e = asker-fits.earlier in
      let l = asker-fits.later in
      record {
        supposed = supposed;
        from-t0 = always_behind x e l (LaterThan x 30) (later_than x 30) (later_than_shows x 30) refl;
        unasked = at-start x e l (λ (d : End). request_of d 0 1 ≡ none) refl;
        reporter = refl;
        reports = reports_every m m.holder 100 130 (130 ∷ []) asker-fits holder-fits 30 refl;
        distances = always_behind x e l (Between m 40 40) (between_test m 40 40) (between-shows m 40 40) refl;
        long = record { quiet = leb-true _ _ refl; next = leb-true _ _ refl };
        second = omega arith;
        asker-passed = asker-passed m asker-fits holder-fits (timely_by m 40 100 30 1 4) refl;
        holder-passed = holder-passed m asker-fits holder-fits (timely_by m 40 100 30 1 4) refl;
      }

  -- nothing is lost after 30 but at 660
  abbrev when : ℕ → Bool
  when t = ltb 30 t && not (among t (660 ∷ []))

  says : (t : ℕ) → Spared 30 (660 ∷ []) t → when t ≡ true
  says t on = rw (lt-ltb 30 t on.0, not-among t (660 ∷ []) on.1) refl

  abbrev on : ℕ → Type 0
  on = Spared 30 (660 ∷ [])

  -- what each end puts out of the requests reaches the holder, of the repairs the asker; the two's own are not asked for here
  abbrev Asked : (k : ℕ) → k < 8 → Type 0
  Asked = Carried m (is_request m) when on says end m.asker m.holder

  abbrev asked : (k : ℕ) (hk : k < 8) → fit (all (end k hk)) ≡ true
      → every (carries m (is_request m) when (end k hk) m.holder (logs m.holder)) (log (opened (end k hk)) (all (end k hk))) ≡ true → Asked k hk
  asked = carried-by m (is_request m) when on says end m.asker m.holder holder-fits

  abbrev Mended : (k : ℕ) → k < 8 → Type 0
  Mended = Carried m (is_repair_of m) when on says end m.holder m.asker

  abbrev mended : (k : ℕ) (hk : k < 8) → fit (all (end k hk)) ≡ true
      → every (carries m (is_repair_of m) when (end k hk) m.asker (logs m.asker)) (log (opened (end k hk)) (all (end k hk))) ≡ true → Mended k hk
  mended = carried-by m (is_repair_of m) when on says end m.holder m.asker asker-fits

  requests : (k : ℕ) (hk : k < 8) → Asked k hk
  unfolding computed
  requests = eight Asked (λ h. asked 0 h refl refl) (λ h apart. clash apart) (λ h apart besides. clash besides) (λ h. asked 3 h refl refl)
      (λ h. asked 4 h refl refl)
      (λ h. asked 5 h refl refl) (λ h. asked 6 h refl refl) (λ h. asked 7 h refl refl)

  repairs : (k : ℕ) (hk : k < 8) → Mended k hk
  unfolding computed
  repairs = eight Mended (λ h. mended 0 h refl refl) (λ h apart besides. clash besides) (λ h apart. clash apart) (λ h. mended 3 h refl refl)
      (λ h. mended 4 h refl refl) (λ h. mended 5 h refl refl) (λ h. mended 6 h refl refl) (λ h. mended 7 h refl refl)

  -- the requests of others that the asker takes are host 3's; the holder takes no repair
  abbrev third : Side
  third = end 3 (omega arith)

  third-fits : Fit (all third)
  unfolding computed
  third-fits = fits (all third) refl

  crash-network : Network m end on
  unfolding computed
  crash-network =
      let x = m.asker in
      let y = m.holder in
      let ea = asker-fits.earlier in
      let la = asker-fits.later in
      let eh = holder-fits.earlier in
      let lh = holder-fits.later in
      record {
        own-requests = always_behind x ea la (RequestsReach m on) (requests_reach m when (logs y)) (requests_reach_shows m when on says eh lh) refl;
        own-repairs = always_behind y eh lh (RepairsReach m on) (repairs_reach m when (logs x)) (repairs_reach_shows m when on says ea la) refl;
        requests = requests;
        repairs = λ k hk apart besides.
            always_weaken {Q = CarriesRepairs m on (end k hk)} (λ d c h bytes out is now. inr (h bytes out is now)) (all (end k hk)) _
            (repairs k hk apart besides);
        new_requests = always_behind x ea la (NewRequests m end on) (newly m (is_request m) x y third (log (opened third) (all third)))
            (λ d c p tk q found quiet bytes is tells another clear.
            newly_shows m (is_request m) end x y 3 (omega arith) third-fits refl refl d c p bytes is tells) refl;
        new_repairs = always_behind y eh lh (NewRepairs m end on) (newly m (is_repair_of m) y x third (log (opened third) (all third)))
            (λ d c p tk bytes is tells another clear.
            inr (newly_shows m (is_repair_of m) end y x 3 (omega arith) third-fits refl refl d c p bytes is tells)) refl;
      }

  crash_not_sooner : RecoversBy m 1389 → ⊥
  unfolding computed
  crash_not_sooner = not-got m asker-fits holder-fits 1389 refl

  crash_met : Reached (crash_supposes opens) (HandedOutBy (crash opens) (timely_by m 40 100 30 1 4)) (RecoversBy m 1389)
  crash_met = record {
    holds = (crash-supposed, (crash-network, tt));
    reached = timely_over_network (crash opens) 40 40 100 30 3 (130 ∷ []) (660 ∷ []) crash-supposed crash-network;
    no_sooner = crash_not_sooner;
  }

  crash-whole : Whole m (Spared 30 (660 ∷ []))
  crash-whole = network_is_whole m end (Spared 30 (660 ∷ [])) crash-network

-- ---- nothing is lost but the cue itself

abbrev waiting : Option Request → Bool
waiting none = false
waiting (just q) = true

-- no request waited, and one does: the call is later than t
abbrev asks_after : Recovery → ℕ → Test
asks_after m t z = waiting (request_of z.state m.source m.number) || (not (waiting (request_of z.result.left m.source m.number))
    || ltb t (time_of m.asker z.call))

asks_after_shows : (m : Recovery) (t : ℕ) → Shows (asks_after m t) (AsksAfter m t)
asks_after_shows m t e c p q none_yet now = ltb-true t (time_of m.asker c) (holds_if _ _ (or_alone _ _ p (ap waiting none_yet)) (ap waiting now))

module _ (opens : Opens) where
  abbrev n : Recovery
  n = recovery_in (calm opens)

  abbrev side : (k : ℕ) → k < 8 → Side
  side = sides_in (calm opens)

  calm-asker : SideFits n.asker
  unfolding computed
  calm-asker = side-fits n.asker refl

  calm-holder : SideFits n.holder
  unfolding computed
  calm-holder = side-fits n.holder refl

  calm-reporter : SideFits (reporter_in (calm opens))
  unfolding computed
  calm-reporter = side-fits (reporter_in (calm opens)) refl

  calm-ends : Supposed n 22
  unfolding computed
  calm-ends = supposed_of n 22
      (all_hold (ends_suppose n 22) (ends_tests n 22 (logs n.asker) (logs n.holder)) (ends_backed n calm-asker calm-holder 22) refl)

  calm-supposed : SteadySupposed n (reporter_in (calm opens)) 40 100 22 400 []
  unfolding computed
  calm-supposed =
      let x = n.asker in
      let e = calm-asker.earlier in
      let l = calm-asker.later in
      record {
        supposed = calm-ends;
        asks-after = always_behind x e l (AsksAfter n (22 + lookback n)) (asks_after n (22 + lookback n)) (asks_after_shows n (22 + lookback n)) refl;
        unasked = at-start x e l (λ (d : End). request_of d 0 1 ≡ none) refl;
        reporter = refl;
        reports = reports_every n (reporter_in (calm opens)) 100 400 [] calm-asker calm-reporter 400 refl;
        distances = always_behind x e l (Between n 0 40) (between_test n 0 40) (between-shows n 0 40) refl;
        asker-passed = asker-passed n calm-asker calm-holder (timely_steady_by n 40 100 400 0) refl;
        holder-passed = holder-passed n calm-asker calm-holder (timely_steady_by n 40 100 400 0) refl;
      }

  abbrev then : ℕ → Bool
  then t = ltb 22 t

  abbrev After22 : ℕ → Type 0
  After22 t = 22 < t

  tells : (t : ℕ) → After22 t → then t ≡ true
  tells t late = lt-ltb 22 t late

  abbrev Asked' : (k : ℕ) → k < 8 → Type 0
  Asked' = Carried n (is_request n) then After22 tells side n.asker n.holder

  abbrev asked' : (k : ℕ) (hk : k < 8) → fit (all (side k hk)) ≡ true
      → every (carries n (is_request n) then (side k hk) n.holder (logs n.holder)) (log (opened (side k hk)) (all (side k hk))) ≡ true → Asked' k hk
  asked' = carried-by n (is_request n) then After22 tells side n.asker n.holder calm-holder

  abbrev Mended' : (k : ℕ) → k < 8 → Type 0
  Mended' = Carried n (is_repair_of n) then After22 tells side n.holder n.asker

  abbrev mended' : (k : ℕ) (hk : k < 8) → fit (all (side k hk)) ≡ true
      → every (carries n (is_repair_of n) then (side k hk) n.asker (logs n.asker)) (log (opened (side k hk)) (all (side k hk))) ≡ true → Mended' k hk
  mended' = carried-by n (is_repair_of n) then After22 tells side n.holder n.asker calm-asker

  calm-requests : (k : ℕ) (hk : k < 8) → Asked' k hk
  unfolding computed
  calm-requests = eight Asked' (λ h. asked' 0 h refl refl) (λ h apart. clash apart) (λ h apart besides. clash besides) (λ h. asked' 3 h refl refl)
      (λ h. asked' 4 h refl refl)
      (λ h. asked' 5 h refl refl) (λ h. asked' 6 h refl refl) (λ h. asked' 7 h refl refl)

  calm-repairs : (k : ℕ) (hk : k < 8) → Mended' k hk
  unfolding computed
  calm-repairs = eight Mended' (λ h. mended' 0 h refl refl) (λ h apart besides. clash besides) (λ h apart. clash apart) (λ h. mended' 3 h refl refl)
      (λ h. mended' 4 h refl refl) (λ h. mended' 5 h refl refl) (λ h. mended' 6 h refl refl) (λ h. mended' 7 h refl refl)

  -- nobody else asks or repairs
  abbrev source : Side
  source = side 0 (omega arith)

  source_fits : Fit (all source)
  unfolding computed
  source_fits = fits (all source) refl

  calm-network : Network n side After22
  unfolding computed
  calm-network =
      let x = n.asker in
      let y = n.holder in
      let ea = calm-asker.earlier in
      let la = calm-asker.later in
      let eh = calm-holder.earlier in
      let lh = calm-holder.later in
      record {
        own-requests = always_behind x ea la (RequestsReach n After22) (requests_reach n then (logs y)) (requests_reach_shows n then After22 tells eh lh) refl;
        own-repairs = always_behind y eh lh (RepairsReach n After22) (repairs_reach n then (logs x)) (repairs_reach_shows n then After22 tells ea la) refl;
        requests = calm-requests;
        repairs = λ k hk apart besides.
            always_weaken {Q = CarriesRepairs n After22 (side k hk)} (λ d c h bytes out is now. inr (h bytes out is now)) (all (side k hk)) _
            (calm-repairs k hk apart besides);
        new_requests = always_behind x ea la (NewRequests n side After22) (newly n (is_request n) x y source (log (opened source) (all source)))
            (λ d c p tk q found quiet bytes is tells another clear.
            newly_shows n (is_request n) side x y 0 (omega arith) source_fits refl refl d c p bytes is tells) refl;
        new_repairs = always_behind y eh lh (NewRepairs n side After22) (newly n (is_repair_of n) y x source (log (opened source) (all source)))
            (λ d c p tk bytes is tells another clear.
            inr (newly_shows n (is_repair_of n) side y x 0 (omega arith) source_fits refl refl d c p bytes is tells)) refl;
      }

  calm_not_sooner : RecoversBy n 1049 → ⊥
  unfolding computed
  calm_not_sooner = not-got n calm-asker calm-holder 1049 refl

  calm_met : Reached (calm_supposes opens) (HandedOutBy (calm opens) (timely_steady_by n 40 100 400 0)) (RecoversBy n 1049)
  calm_met = record {
    holds = (calm-supposed, (calm-network, tt));
    reached = steady_over_network (calm opens) 40 100 22 400 [] calm-supposed calm-network;
    no_sooner = calm_not_sooner;
  }

pub plays-shown : PlaysShown
plays-shown = record { opens = house-opens; timely = crash_met house-opens; network = crash-whole house-opens; steady = calm_met house-opens }
