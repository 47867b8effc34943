-- The lists of specs/OneRound.antt: what is supposed of them is computed by the tests; that all of it suffices is `Answered`. One declaration a list, since
-- antt bounds the steps of a declaration.
use Prim.Native.Nat.{ℕ, ◌+◌, ◌<◌}
use mathlib.Core.Path.{◌≡◌, refl}
use mathlib.Core.Bool.{Bool, true, not, ◌&&◌}
use mathlib.Core.List.{List, [], ◌∷◌}
use mathlib.Core.Option.{some as just}
use lib.Dec.{leb, ltb}
use borrow.Author.Tests.{lt-ltb, le-leb}
use Rattle.message.proofs.QuestionLaws.{and_both}
use Rattle.end.specs.declared.End.{End}
use Rattle.guarantees.specs.Records.{request_of}
use Rattle.guarantees.specs.Turn.{Taken}
use Rattle.cases.specs.Turn.{All}
use Rattle.recovery.specs.Recovery.{Side, time_of, lookback, LaterThan}
use Rattle.recovery.specs.Supposed.{Supposed}
use Rattle.recovery.specs.Whole.{Whole}
use Rattle.recovery.proofs.Exchange.{answered}
use Rattle.recovery_cases.specs.Needs.{claims, Met, Needed, OneRound, answering}
use Rattle.recovery_cases.specs.OneRound.{listing, slowest, same_number, holder_later, lacking, asker_leaves, holder_leaves, asker_retires}
use Rattle.recovery_cases.specs.OneRound.{holder_retires, asker_idle, holder_idle, far_away, request_lost, other_request_lost, repair_lost}
use Rattle.recovery_cases.specs.OneRound.{other_repair_lost, asker_stops, holder_stops, too_early, unsettled, not_open, asker_later, OneRoundShown}
use Rattle.recovery_cases.proofs.Log.{log, every, some, fit, fits, Logs, logs, at_place, at-place, always_rest, sometime_rest}
use Rattle.recovery_cases.proofs.Tests.{later_than, later_than_shows, passes, passes-shows, got_by}
use Rattle.recovery_cases.proofs.Backed.{chain4, Backed, all_true_lem, all_but_lem, SideFits, side_fit, side-fits, holder-passed, tests_of, met, needed}
use Rattle.recovery_cases.proofs.Computed.{computed}

suffices : (r : OneRound) → Supposed r.recovery r.t1 → Whole r.recovery (answering r).on → All (answering r).own → claims (answering r)
suffices r s w (waits, (late, (passed, (holder-passes, _)))) =
    answered r.recovery r.t1 s r.mid r.rest r.parts r.request waits late w passed holder-passes

abbrev when : OneRound → ℕ → Bool
when r t = ltb r.t1 t && leb (t + r.recovery.delay) (answering r).by

says : (r : OneRound) (t : ℕ) → (answering r).on t → when r t ≡ true
says r t on = rw (lt-ltb r.t1 t on.0, le-leb (t + r.recovery.delay) (answering r).by on.1) refl

abbrev own : OneRound → Logs → Logs → List Bool
own r a h =
    true
    ∷ every (later_than r.recovery.asker (r.t1 + lookback r.recovery)) (log (at_place r.recovery.asker r.mid) r.rest)
    ∷ some (passes r.recovery.asker (answering r).by) (log (at_place r.recovery.asker r.mid) r.rest)
    ∷ some (passes r.recovery.holder (answering r).by) h.behind
    ∷ []

-- the calls have arguments of their declared types, and the request waits
abbrev fit_all_lem : OneRound → Bool
fit_all_lem r = (side_fit r.recovery.asker && side_fit r.recovery.holder) && (fit r.mid && fit r.rest)

abbrev Waits : OneRound → Type 0
Waits r = request_of (at_place r.recovery.asker r.mid) r.recovery.source r.recovery.number ≡ just r.request

module _ (r : OneRound) (f : fit_all_lem r ≡ true) (waits : Waits r) where
  abbrev x : Side
  x = r.recovery.asker

  abbrev y : Side
  y = r.recovery.holder

  sides : (side_fit x && side_fit y ≡ true) × (fit r.mid && fit r.rest ≡ true)
  sides = and_both (side_fit x && side_fit y) (fit r.mid && fit r.rest) f

  fa : SideFits x
  fa = side-fits x (and_both (side_fit x) (side_fit y) sides.0).0

  fh : SideFits y
  fh = side-fits y (and_both (side_fit x) (side_fit y) sides.0).1

  own_backed : Backed (answering r).own (own r (logs x) (logs y))
  own_backed =
      let m = r.recovery in
      let bound = (answering r).by in
      let after-t1 = r.t1 + lookback m in
      let fm = fits r.mid (and_both (fit r.mid) (fit r.rest) sides.1).0 in
      let fr = fits r.rest (and_both (fit r.mid) (fit r.rest) sides.1).1 in
      chain4
      (λ _. at-place x fa.earlier fa.later r.mid fm (λ (e : End). request_of e m.source m.number ≡ just r.request) waits)
      (always_rest x fa.earlier fa.later r.mid fm (LaterThan x after-t1) (later_than x after-t1) r.rest fr (later_than_shows x after-t1))
      (sometime_rest x fa.earlier fa.later r.mid fm (λ e c. Taken e c × (bound < time_of x c)) (passes x bound) r.rest fr (passes-shows x bound))
      (holder-passed m fa fh bound)

  is_met : (t : ℕ) → all_true_lem (tests_of (answering r) (when r) (own r) (logs x) (logs y)) ≡ true
      → every (λ z. not (got_by r.recovery t z)) (logs x).behind ≡ true
      → Met (answering r) t
  is_met = met (answering r) (suffices r) (when r) (says r) (own r) fa fh own_backed

  is_needed : (i : ℕ) → all_but_lem i (tests_of (answering r) (when r) (own r) (logs x) (logs y)) ≡ true
      → every (λ z. not (got_by r.recovery (answering r).by z)) (logs x).behind ≡ true → Needed i (answering r)
  is_needed = needed (answering r) (suffices r) (when r) (says r) (own r) fa fh own_backed

-- ---- the lists
listing_met : Met (answering listing) 569
unfolding computed
listing_met = is_met listing refl refl 569 refl refl

slowest_met : Met (answering slowest) 1051
unfolding computed
slowest_met = is_met slowest refl refl 1051 refl refl

needed_two : Needed 1 (answering same_number)
unfolding computed
needed_two = is_needed same_number refl refl 1 refl refl

needed_asker_by : Needed 3 (answering asker_later)
unfolding computed
needed_asker_by = is_needed asker_later refl refl 3 refl refl

needed_holder_by : Needed 4 (answering holder_later)
unfolding computed
needed_holder_by = is_needed holder_later refl refl 4 refl refl

needed_open_there : Needed 5 (answering not_open)
unfolding computed
needed_open_there = is_needed not_open refl refl 5 refl refl

needed_holds : Needed 7 (answering lacking)
unfolding computed
needed_holds = is_needed lacking refl refl 7 refl refl

needed_asker_stays : Needed 10 (answering asker_leaves)
unfolding computed
needed_asker_stays = is_needed asker_leaves refl refl 10 refl refl

needed_holder_stays : Needed 11 (answering holder_leaves)
unfolding computed
needed_holder_stays = is_needed holder_leaves refl refl 11 refl refl

needed_asker_keeps : Needed 12 (answering asker_retires)
unfolding computed
needed_asker_keeps = is_needed asker_retires refl refl 12 refl refl

needed_holder_keeps : Needed 13 (answering holder_retires)
unfolding computed
needed_holder_keeps = is_needed holder_retires refl refl 13 refl refl

needed_asker_fires : Needed 14 (answering asker_idle)
unfolding computed
needed_asker_fires = is_needed asker_idle refl refl 14 refl refl

needed_holder_fires : Needed 15 (answering holder_idle)
unfolding computed
needed_holder_fires = is_needed holder_idle refl refl 15 refl refl

needed_settled : Needed 16 (answering unsettled)
unfolding computed
needed_settled = is_needed unsettled refl refl 16 refl refl

needed_reaches : Needed 17 (answering far_away)
unfolding computed
needed_reaches = is_needed far_away refl refl 17 refl refl

needed_requests : Needed 18 (answering request_lost)
unfolding computed
needed_requests = is_needed request_lost refl refl 18 refl refl

needed_requests_shared : Needed 19 (answering other_request_lost)
unfolding computed
needed_requests_shared = is_needed other_request_lost refl refl 19 refl refl

needed_repairs : Needed 20 (answering repair_lost)
unfolding computed
needed_repairs = is_needed repair_lost refl refl 20 refl refl

needed_repairs_shared : Needed 21 (answering other_repair_lost)
unfolding computed
needed_repairs_shared = is_needed other_repair_lost refl refl 21 refl refl

needed_late : Needed 23 (answering too_early)
unfolding computed
needed_late = is_needed too_early refl refl 23 refl refl

needed_asker_passed : Needed 24 (answering asker_stops)
unfolding computed
needed_asker_passed = is_needed asker_stops refl refl 24 refl refl

needed_holder_passed : Needed 25 (answering holder_stops)
unfolding computed
needed_holder_passed = is_needed holder_stops refl refl 25 refl refl

pub one_round_shown : OneRoundShown
one_round_shown = record {
  listing = listing_met;
  slowest = slowest_met;
  two = needed_two;
  asker-by = needed_asker_by;
  holder-by = needed_holder_by;
  open_there = needed_open_there;
  holds = needed_holds;
  asker-stays = needed_asker_stays;
  holder-stays = needed_holder_stays;
  asker-keeps = needed_asker_keeps;
  holder-keeps = needed_holder_keeps;
  asker-fires = needed_asker_fires;
  holder-fires = needed_holder_fires;
  settled = needed_settled;
  reaches = needed_reaches;
  requests = needed_requests;
  requests_shared_lem = needed_requests_shared;
  repairs = needed_repairs;
  repairs_shared_lem = needed_repairs_shared;
  late = needed_late;
  asker-passed = needed_asker_passed;
  holder-passed = needed_holder_passed;
}
