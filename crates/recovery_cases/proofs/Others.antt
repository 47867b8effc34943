-- The lists of specs/Others.antt: what is supposed of them is computed by the tests, and what is claimed is the theorem's.
use Prim.Native.Nat.{ℕ, ◌+◌, ◌*◌, ◌≤◌, ◌<◌}
use native.Mathlib.Omega.{arith}
use mathlib.Core.Path.{◌≡◌, refl, sym, ap, ◌∙◌}
use mathlib.Core.Bool.{Bool, true, false, not, ◌&&◌, ◌||◌}
use mathlib.Core.List.{List, [], ◌∷◌, Memᴰ}
use mathlib.Core.Option.{Option, none, some as just}
use mathlib.Core.Logic.{inl, inr}
use lib.ListN.{length}
use lib.Dec.{leb, ltb}
use borrow.Author.Tests.{leb-true, lt-ltb, le-leb, not-true, ltb-true}
use Rattle.message.specs.Entry.{as_host}
use Rattle.message.specs.Message.{REPL, XPRS, meaning_from}
use Rattle.message.specs.Question.{same_host}
use Rattle.message.proofs.QuestionLaws.{and_both}
use Rattle.end.specs.declared.Request.{Request}
use Rattle.end.specs.Parts.{Unset, Soon}
use Rattle.end.specs.declared.Slot.{Slot}
use Rattle.end.specs.declared.Slot.TheVariants.{Empty, Held, Waiting}
use Rattle.end.specs.declared.End.{End}
use Rattle.end.specs.State.{source_at}
use Rattle.end.specs.Records.{is_closed, is_held}
use Rattle.end.specs.Arrival.{message_host}
use Rattle.guarantees.specs.Calls.{OneCall}
use Rattle.guarantees.specs.Records.{record_of, slot_of, request_of}
use Rattle.guarantees.specs.Arrivals.{is_about}
use Rattle.guarantees.specs.Turn.{Always, Taken, NeitherLeavesNorCrashes}
use Rattle.cases.specs.Turn.{All}
use Rattle.recovery.specs.Recovery.{opened, begun, time_of, lookback, LaterThan, RecoversBy, Recovery}
use Rattle.recovery.specs.Supposed.{Keeps}
use Rattle.recovery.specs.Whole.{TakesBy}
use Rattle.recovery.specs.Answered.{answered_by}
use Rattle.recovery.specs.Losses.{Between, FirstAsks, losses_by}
use Rattle.recovery.specs.Outage.{outage_by}
use Rattle.recovery.specs.Several.{EachSupposed, WholeAmong, AllPassed}
use Rattle.recovery.specs.Detection.{KnownBy, Listens}
use Rattle.recovery.specs.Express.{BothStay, ExpressInTime, ExpressReaches, ExpressReturns, express_by}
use Rattle.recovery.proofs.Several.{answered-among, recovers-among, after_outage_among_lem}
use Rattle.recovery.proofs.Detected.{detected}
use Rattle.recovery.proofs.Express.{express-recovers}
use Rattle.recovery_cases.specs.Needs.{Reached, Missed}
use Rattle.recovery_cases.specs.Calls.{slow, cue}
use Rattle.recovery_cases.specs.Others.{among, another, others, second, among_mid, among_rest, answered_among, recovers_among, after_outage_among}
use Rattle.recovery_cases.specs.Others.{Detecting, detecting_by, detecting_supposes, Known, reported, reported_by_one, reported_late, hastily}
use Rattle.recovery_cases.specs.Others.{hasty_suppose, hasty_claims, haste, not_fired, while_quiet, haste_lost, haste_stops, OthersShown}
use Rattle.recovery_cases.proofs.Log.{gives, entry, log, every, some, Test, Fit, fits, Logs, logs, at_place, at-start, at-place, always_behind}
use Rattle.recovery_cases.proofs.Log.{sometime_behind, never-behind, always_rest, sometime_rest}
use Rattle.recovery_cases.proofs.Tests.{Shows, holds_if, outs, takes_by, takes-by, stays, stays-shows, keeps, keeps-shows, later_than}
use Rattle.recovery_cases.proofs.Tests.{later_than_shows, passes, passes-shows, between_test, between-shows, got_by}
use Rattle.recovery_cases.proofs.Backed.{chain3, chain6, chain7, chain8, Backed, all_true_lem, all_but_lem, all_hold, all_but, SideFits, side-fits}
use Rattle.recovery_cases.proofs.Backed.{asker-passed, not-got}
use Rattle.recovery_cases.proofs.Rounds.{among as amongTimes, not-among, first-asks, outlasts-shows}
use Rattle.recovery_cases.proofs.Several.{each-supposed, all-passed, whole-among}
use Rattle.recovery_cases.proofs.Reports.{reports_every, covers}
use Rattle.recovery_cases.proofs.Computed.{computed}

-- ---- several holders
asker-fits : SideFits among.asker
unfolding computed
asker-fits = side-fits among.asker refl

holder-fits : SideFits among.holder
unfolding computed
holder-fits = side-fits among.holder refl

another-fits : SideFits another
unfolding computed
another-fits = side-fits another refl

mid-fits : Fit among_mid
unfolding computed
mid-fits = fits among_mid refl

rest-fits : Fit among_rest
unfolding computed
rest-fits = fits among_rest refl

each_32 : EachSupposed among others 32
unfolding computed
each_32 = each-supposed among another asker-fits holder-fits another-fits 32 refl refl (leb-true _ _ refl) (leb-true _ _ refl)

each_712 : EachSupposed among others 712
unfolding computed
each_712 = each-supposed among another asker-fits holder-fits another-fits 712 refl refl (leb-true _ _ refl) (leb-true _ _ refl)

-- nothing is lost later than 712, up to Δ before a bound
abbrev Later : ℕ → ℕ → Type 0
Later bound t = (712 < t) × (t + 10 ≤ bound)

later : (bound t : ℕ) → Later bound t → ltb 712 t ≡ true
later bound t on = lt-ltb 712 t on.0

whole-later : (bound : ℕ) → WholeAmong among others (Later bound)
unfolding computed
whole-later bound = whole-among among another asker-fits holder-fits another-fits (λ t. ltb 712 t) (Later bound) (later bound) refl refl refl refl refl refl

-- nor at any time after 32 but 712
abbrev But712 : ℕ → Type 0
But712 t = (32 < t) × (Memᴰ t (712 ∷ []) → ⊥)

but_712 : (t : ℕ) → But712 t → not (amongTimes t (712 ∷ [])) ≡ true
but_712 t on = not-among t (712 ∷ []) on.1

whole_but_712 : WholeAmong among others But712
unfolding computed
whole_but_712 = whole-among among another asker-fits holder-fits another-fits (λ t. not (amongTimes t (712 ∷ []))) But712 but_712 refl refl refl refl refl refl

not_by_2091 : RecoversBy among 2091 → ⊥
unfolding computed
not_by_2091 = not-got among asker-fits holder-fits 2091 refl

-- `AnsweredAmong`
second-waits : request_of (at_place among.asker among_mid) 0 1 ≡ just second
unfolding computed
second-waits = refl

rest-later : every (later_than among.asker (712 + lookback among)) (log (at_place among.asker among_mid) among_rest) ≡ true
unfolding computed
rest-later = refl

rest-passes : some (passes among.asker (answered_by among second)) (log (at_place among.asker among_mid) among_rest) ≡ true
unfolding computed
rest-passes = refl

all_pass_answered : AllPassed among others (answered_by among second)
unfolding computed
all_pass_answered = all-passed among another asker-fits holder-fits another-fits (answered_by among second) refl refl

answered-holds : All answered_among
answered-holds =
    let x = among.asker in
    let e = asker-fits.earlier in
    let l = asker-fits.later in
    let bound = answered_by among second in
    chain6
    each_712
    (at-place x e l among_mid mid-fits (λ (d : End). request_of d 0 1 ≡ just second) second-waits)
    (always_rest x e l among_mid mid-fits (LaterThan x (712 + lookback among)) (later_than x (712 + lookback among)) among_rest rest-fits
    (later_than_shows x (712 + lookback among)) rest-later)
    (whole-later bound)
    (sometime_rest x e l among_mid mid-fits (λ d c. Taken d c × (bound < time_of x c)) (passes x bound) among_rest rest-fits (passes-shows x bound) rest-passes)
    all_pass_answered

answered_met : Reached answered_among (RecoversBy among (answered_by among second)) (RecoversBy among 2091)
answered_met = record { holds = answered-holds; reached = go answered-holds; no_sooner = not_by_2091 }
  where
    go : All answered_among → RecoversBy among (answered_by among second)
    go (each, (waits, (late, (w, (passed, (all_pass, _)))))) = answered-among among others 712 each among_mid among_rest refl second waits late w passed all_pass

-- `RecoversAmong` and `AfterOutageAmong`
first_712 : FirstAsks among 32 1
unfolding computed
first_712 = first-asks among asker-fits (slow 32 (cue 2)) _ (record { round = 1; due = 712; quiet = 352 }) refl (refl, refl)

at_40 : Always (Between among 40 40) (begun among.asker) among.asker.later
unfolding computed
at_40 = always_behind among.asker asker-fits.earlier asker-fits.later (Between among 40 40) (between_test among 40 40) (between-shows among 40 40) refl

recovers-holds : All recovers_among
unfolding computed
recovers-holds =
    chain7
    each_32
    first_712
    (record { quiet = leb-true _ _ refl; next = leb-true _ _ refl })
    at_40
    whole_but_712
    (asker-passed among asker-fits holder-fits (losses_by among 40 32 1 2) refl)
    (all-passed among another asker-fits holder-fits another-fits (losses_by among 40 32 1 2) refl refl)

recovers_met : Reached recovers_among (RecoversBy among (losses_by among 40 32 1 2)) (RecoversBy among 2091)
recovers_met = record { holds = recovers-holds; reached = go recovers-holds; no_sooner = not_by_2091 }
  where
    go : All recovers_among → RecoversBy among (losses_by among 40 32 1 2)
    go (each, (first, (long, (distances, (w, (passed, (all_pass, _))))))) =
        recovers-among among others 40 40 32 32 1 1 each (omega arith) first (omega arith) long distances (712 ∷ []) w passed all_pass

outage-holds : All after_outage_among
unfolding computed
outage-holds =
    chain8
    each_712
    first_712
    (leb-true _ _ refl)
    (outlasts-shows among 40 712 32 1 2 refl)
    at_40
    (whole-later (outage_by among 40 712 2))
    (asker-passed among asker-fits holder-fits (outage_by among 40 712 2) refl)
    (all-passed among another asker-fits holder-fits another-fits (outage_by among 40 712 2) refl refl)

outage_met : Reached after_outage_among (RecoversBy among (outage_by among 40 712 2)) (RecoversBy among 2091)
outage_met = record { holds = outage-holds; reached = go outage-holds; no_sooner = not_by_2091 }
  where
    go : All after_outage_among → RecoversBy among (outage_by among 40 712 2)
    go (each, (first, (by, (lasts, (distances, (w, (passed, (all_pass, _)))))))) =
        after_outage_among_lem among others 40 40 712 32 1 2 each first by lasts distances w passed all_pass

-- ---- detection

-- a request waits, or the cue is held, after the call
abbrev waiting : Option Request → Bool
waiting none = false
waiting (just q) = true

abbrev known_by : Recovery → ℕ → Test
known_by m t z = (is_held (slot_of z.result.left m.source m.number) || waiting (request_of z.result.left m.source m.number))
    && leb (time_of m.asker z.call) t

shows-known : (m : Recovery) (t : ℕ) (e : End) (c : OneCall) → KnownBy m t e c → known_by m t (entry e c (gives e c)) ≡ true
shows-known m t e c (tk, inl held, by) = rw (held, le-leb (time_of m.asker c) t by) refl
shows-known m t e c (tk, inr q, by) = rw (q.1, le-leb (time_of m.asker c) t by) (or_true (is_held (slot_of (gives e c).left m.source m.number)))
  where
    or_true : (b : Bool) → (b || true) && true ≡ true
    or_true true = refl
    or_true false = refl

-- what is supposed of the asker
abbrev listen_test : Recovery → Logs → Bool
listen_test m a = ltb m.source 8
    && (not (same_host (as_host m.source) (opened m.asker).host)
    && (not (is_closed (source_at a.start (as_host m.source)).span) && (every stays a.behind && every (keeps m) a.behind)))

listen_shows : (m : Recovery) → SideFits m.asker → listen_test m (logs m.asker) ≡ true → Listens m
listen_shows m fa h =
    let x = m.asker in
    let a = and_both (ltb m.source 8) _ h in
    let b = and_both (not (same_host (as_host m.source) (opened x).host)) _ a.1 in
    let c = and_both (not (is_closed (source_at (logs x).start (as_host m.source)).span)) _ b.1 in
    let d = and_both (every stays (logs x).behind) _ c.1 in
    record {
      source = ltb-true m.source 8 a.0;
      other = not-true _ b.0;
      open_there = at-start x fa.earlier fa.later (λ (e : End). is_closed (source_at e (as_host m.source)).span ≡ false) (not-true _ c.0);
      drawn = fa.later.0;
      stays = always_behind x fa.earlier fa.later NeitherLeavesNorCrashes stays stays-shows d.0;
      keeps = always_behind x fa.earlier fa.later (Keeps m) (keeps m) (keeps-shows m) d.1;
    }

abbrev detect_tests : Detecting → Logs → Logs → List Bool
detect_tests r a x =
    listen_test r.recovery a
    ∷ not (same_host (opened r.reporter).host (opened r.recovery.asker).host)
    ∷ covers r.recovery r.reporter 100 (50 + length r.missed * 100) r.missed a 50 x.behind
    ∷ []

module _ (r : Detecting) (fa : SideFits r.recovery.asker) (fx : SideFits r.reporter) where
  abbrev detect₀ : List Bool
  detect₀ = detect_tests r (logs r.recovery.asker) (logs r.reporter)

  detect_backed : Backed (detecting_supposes r) detect₀
  detect_backed = chain3 (listen_shows r.recovery fa) (not-true _)
      (reports_every r.recovery r.reporter 100 (50 + length r.missed * 100) r.missed fa fx 50)

  detect_suffices : All (detecting_supposes r) → Known r (detecting_by r)
  detect_suffices (listens, (apart, (every-100, _))) = detected r.recovery r.reporter 100 50 listens apart r.missed every-100

  unknown : (t : ℕ) → every (λ z. not (known_by r.recovery t z)) (logs r.recovery.asker).behind ≡ true → Known r t → ⊥
  unknown t = never-behind r.recovery.asker fa.earlier fa.later (KnownBy r.recovery t) (known_by r.recovery t) (shows-known r.recovery t)

  does_detect : (t : ℕ) → all_true_lem detect₀ ≡ true → every (λ z. not (known_by r.recovery t z)) (logs r.recovery.asker).behind ≡ true
      → Reached (detecting_supposes r) (Known r (detecting_by r)) (Known r t)
  does_detect t h unseen =
      let a = all_hold (detecting_supposes r) detect₀ detect_backed h in
      record { holds = a; reached = detect_suffices a; no_sooner = unknown t unseen }

  detect_needs : (i : ℕ) → all_but_lem i detect₀ ≡ true → every (λ z. not (known_by r.recovery (detecting_by r) z)) (logs r.recovery.asker).behind ≡ true
      → Missed i (detecting_supposes r) (Known r (detecting_by r))
  detect_needs i h unseen =
      let never = unknown (detecting_by r) unseen in
      record { alone = all_but i (detecting_supposes r) detect₀ detect_backed h (λ a. never (detect_suffices a)); missed = never }

reported_met : Reached (detecting_supposes reported) (Known reported (detecting_by reported)) (Known reported 259)
unfolding computed
reported_met = does_detect reported (side-fits reported.recovery.asker refl) (side-fits reported.reporter refl) 259 refl refl

needed_apart : Missed 1 (detecting_supposes reported_by_one) (Known reported_by_one (detecting_by reported_by_one))
unfolding computed
needed_apart = detect_needs reported_by_one (side-fits reported_by_one.recovery.asker refl) (side-fits reported_by_one.reporter refl) 1 refl refl

needed_reports : Missed 2 (detecting_supposes reported_late) (Known reported_late (detecting_by reported_late))
unfolding computed
needed_reports = detect_needs reported_late (side-fits reported_late.recovery.asker refl) (side-fits reported_late.reporter refl) 2 refl refl

-- ---- express repair

-- the express wait that a call finds
abbrev by_soon : ℕ → ℕ → Slot → Bool
by_soon late clock Empty = true
by_soon late clock (Held r) = true
by_soon late clock (Waiting q Unset) = true
by_soon late clock (Waiting q (Soon due)) = leb clock (due + late)

module _ (m : Recovery) where
  abbrev in_time : Test
  in_time z = by_soon m.late z.call.clock (slot_of z.state m.source m.number)

  in_time_shows : Shows in_time (ExpressInTime m)
  in_time_shows e c p tk q due is = leb-true c.clock (due + m.late) (sym (ap (by_soon m.late c.clock) is) ∙ p)

  -- the holder takes an XPRS while it is not quiet
  abbrev takes_it : List ℕ → ℕ → Test
  takes_it b t z = takes_by m.holder b t z && leb (record_of z.state m.source m.number).hush z.call.clock

  takes_it_lem : (b : List ℕ) (t : ℕ) → Shows (takes_it b t) (λ d c. TakesBy m.holder b t d c × ((record_of d m.source m.number).hush ≤ c.clock))
  takes_it_lem b t e c p =
      let both = and_both (takes_by m.holder b t (entry e c (gives e c))) _ p in
      (takes-by m.holder b t e c both.0, leb-true _ _ both.1)

  abbrev reaches : Logs → Test
  reaches h z = outs (λ b. not (is_about XPRS (meaning_from b) m.source m.number) || (same_host (message_host (meaning_from b)) (opened m.holder).host
      && some (takes_it b (time_of m.asker z.call + m.delay)) h.behind)) z.result.outcome

  reaches-shows : SideFits m.holder → Shows (reaches (logs m.holder)) (ExpressReaches m)
  reaches-shows fh e c p bytes out is =
      let t = time_of m.asker c + m.delay in
      let both = and_both (same_host (message_host (meaning_from bytes)) (opened m.holder).host) _ (holds_if _ _ (sym (ap (outs _) out) ∙ p) is) in (
        both.0,
        sometime_behind m.holder fh.earlier fh.later (λ d y. TakesBy m.holder bytes t d y × ((record_of d m.source m.number).hush ≤ y.clock))
            (takes_it bytes t) (takes_it_lem bytes t) both.1,
      )

  abbrev returns : Logs → Test
  returns a z = outs (λ b. not (is_about REPL (meaning_from b) m.source m.number)
      || some (takes_by m.asker b (time_of m.holder z.call + m.delay)) a.behind) z.result.outcome

  returns-shows : SideFits m.asker → Shows (returns (logs m.asker)) (ExpressReturns m)
  returns-shows fa e c p bytes out is =
      let t = time_of m.holder c + m.delay in
      sometime_behind m.asker fa.earlier fa.later (TakesBy m.asker bytes t) (takes_by m.asker bytes t) (takes-by m.asker bytes t)
      (holds_if _ _ (sym (ap (outs _) out) ∙ p) is)

  -- both stay: tested by what is supposed of the ends elsewhere
  abbrev stay_tests : Logs → Logs → List Bool
  stay_tests a h =
      ltb m.source 8
      ∷ not (same_host (opened m.asker).host (opened m.holder).host)
      ∷ not (same_host (as_host m.source) (opened m.asker).host)
      ∷ not (is_closed (source_at a.start (as_host m.source)).span)
      ∷ not (is_held (slot_of a.start m.source m.number))
      ∷ is_held (slot_of h.start m.source m.number)
      ∷ (every stays a.behind && every stays h.behind)
      ∷ (every (keeps m) a.behind && every (keeps m) h.behind)
      ∷ []

  both_stay : SideFits m.asker → SideFits m.holder → all_true_lem (stay_tests (logs m.asker) (logs m.holder)) ≡ true → BothStay m
  both_stay fa fh h =
      let x = m.asker in
      let y = m.holder in
      let a = logs x in
      let b = logs y in
      let s0 = and_both (ltb m.source 8) _ h in
      let s1 = and_both (not (same_host (opened x).host (opened y).host)) _ s0.1 in
      let s2 = and_both (not (same_host (as_host m.source) (opened x).host)) _ s1.1 in
      let s3 = and_both (not (is_closed (source_at a.start (as_host m.source)).span)) _ s2.1 in
      let s4 = and_both (not (is_held (slot_of a.start m.source m.number))) _ s3.1 in
      let s5 = and_both (is_held (slot_of b.start m.source m.number)) _ s4.1 in
      let s6 = and_both (every stays a.behind && every stays b.behind) _ s5.1 in
      let s7 = and_both (every (keeps m) a.behind && every (keeps m) b.behind) _ s6.1 in
      let stay = and_both (every stays a.behind) (every stays b.behind) s6.0 in
      let keep = and_both (every (keeps m) a.behind) (every (keeps m) b.behind) s7.0 in
      record {
        source = ltb-true m.source 8 s0.0;
        two = not-true _ s1.0;
        other = not-true _ s2.0;
        open_there = at-start x fa.earlier fa.later (λ (e : End). is_closed (source_at e (as_host m.source)).span ≡ false) (not-true _ s3.0);
        lacks = at-start x fa.earlier fa.later (λ (e : End). is_held (slot_of e m.source m.number) ≡ false) (not-true _ s4.0);
        holds = at-start y fh.earlier fh.later (λ (e : End). is_held (slot_of e m.source m.number) ≡ true) s5.0;
        asker-stays = always_behind x fa.earlier fa.later NeitherLeavesNorCrashes stays stays-shows stay.0;
        holder-stays = always_behind y fh.earlier fh.later NeitherLeavesNorCrashes stays stays-shows stay.1;
        asker-keeps = always_behind x fa.earlier fa.later (Keeps m) (keeps m) (keeps-shows m) keep.0;
        holder-keeps = always_behind y fh.earlier fh.later (Keeps m) (keeps m) (keeps-shows m) keep.1;
      }

  abbrev haste_tests : Logs → Logs → List Bool
  haste_tests a h =
      all_true_lem (stay_tests a h)
      ∷ true
      ∷ every in_time a.behind
      ∷ every (reaches h) a.behind
      ∷ every (returns a) h.behind
      ∷ some (passes m.asker (express_by m 300)) a.behind
      ∷ []

-- the lists are of number 1 of source 0
module _ (asks earlier answers : List OneCall) (fa : SideFits (hastily asks earlier answers).asker) (fh : SideFits (hastily asks earlier answers).holder)
    (soon : slot_of (logs (hastily asks earlier answers).asker).start 0 1 ≡ Waiting (record { round = 1; due = 560; quiet = 360 }) (Soon 300)) where
  abbrev h₀ : Recovery
  h₀ = hastily asks earlier answers

  abbrev haste₀ : List Bool
  haste₀ = haste_tests h₀ (logs h₀.asker) (logs h₀.holder)

  haste_backed : Backed (hasty_suppose h₀) haste₀
  haste_backed =
      let x = h₀.asker in
      chain6
      (both_stay h₀ fa fh)
      (λ _. at-start x fa.earlier fa.later (λ (e : End). slot_of e 0 1 ≡ Waiting (record { round = 1; due = 560; quiet = 360 }) (Soon 300)) soon)
      (always_behind x fa.earlier fa.later (ExpressInTime h₀) (in_time h₀) (in_time_shows h₀))
      (always_behind x fa.earlier fa.later (ExpressReaches h₀) (reaches h₀ (logs h₀.holder)) (reaches-shows h₀ fh))
      (always_behind h₀.holder fh.earlier fh.later (ExpressReturns h₀) (returns h₀ (logs x)) (returns-shows h₀ fa))
      (asker-passed h₀ fa fh (express_by h₀ 300))

  haste-suffices : All (hasty_suppose h₀) → hasty_claims h₀
  haste-suffices (both, (waits, (in_time_lem, (reach, (return, (passed, _)))))) =
      express-recovers h₀ both (record { round = 1; due = 560; quiet = 360 }) 300 waits in_time_lem reach return passed

  haste_met : (t : ℕ) → all_true_lem haste₀ ≡ true → every (λ z. not (got_by h₀ t z)) (logs h₀.asker).behind ≡ true
      → Reached (hasty_suppose h₀) (hasty_claims h₀) (RecoversBy h₀ t)
  haste_met t h unseen =
      let a = all_hold (hasty_suppose h₀) haste₀ haste_backed h in
      record { holds = a; reached = haste-suffices a; no_sooner = not-got h₀ fa fh t unseen }

  haste_needs : (i : ℕ) → all_but_lem i haste₀ ≡ true → every (λ z. not (got_by h₀ (express_by h₀ 300) z)) (logs h₀.asker).behind ≡ true
      → Missed i (hasty_suppose h₀) (hasty_claims h₀)
  haste_needs i h unseen =
      let never = not-got h₀ fa fh (express_by h₀ 300) unseen in
      record { alone = all_but i (hasty_suppose h₀) haste₀ haste_backed h (λ a. never (haste-suffices a)); missed = never }

express_met : Reached (hasty_suppose haste) (hasty_claims haste) (RecoversBy haste 319)
unfolding computed
express_met = haste_met _ _ _ (side-fits haste.asker refl) (side-fits haste.holder refl) refl 319 refl refl

needed_fired : Missed 2 (hasty_suppose not_fired) (hasty_claims not_fired)
unfolding computed
needed_fired = haste_needs _ _ _ (side-fits not_fired.asker refl) (side-fits not_fired.holder refl) refl 2 refl refl

needed_reaches : Missed 3 (hasty_suppose while_quiet) (hasty_claims while_quiet)
unfolding computed
needed_reaches = haste_needs _ _ _ (side-fits while_quiet.asker refl) (side-fits while_quiet.holder refl) refl 3 refl refl

needed_returns : Missed 4 (hasty_suppose haste_lost) (hasty_claims haste_lost)
unfolding computed
needed_returns = haste_needs _ _ _ (side-fits haste_lost.asker refl) (side-fits haste_lost.holder refl) refl 4 refl refl

needed_passed : Missed 5 (hasty_suppose haste_stops) (hasty_claims haste_stops)
unfolding computed
needed_passed = haste_needs _ _ _ (side-fits haste_stops.asker refl) (side-fits haste_stops.holder refl) refl 5 refl refl

pub others-shown : OthersShown
others-shown = record {
  answered-among = answered_met;
  recovers-among = recovers_met;
  after_outage_among_lem = outage_met;
  detected = reported_met;
  apart = needed_apart;
  reports = needed_reports;
  express = express_met;
  fired = needed_fired;
  express-reaches = needed_reaches;
  express-returns = needed_returns;
  passed = needed_passed;
}
