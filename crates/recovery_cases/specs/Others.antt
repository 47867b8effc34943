-- Several holders, detection and express repair on computed lists, in which all that the statements suppose holds; and lists in which one thing that
-- detection or express repair supposes of its own fails alone, and the bound is missed.
use Rattle.std.specs.Prelude.{◌≡◌, false, ℕ, ◌+◌, ◌*◌, ◌≤◌, ◌<◌, length}
use mathlib.Core.List.{List, [], ◌∷◌, ◌++◌, Memᴰ}
use Rattle.std.proofs.Math.Option.{some}
use Rattle.message.specs.Entry.{as_host, as_number}
use Rattle.message.specs.Question.{same_host}
use Rattle.end.specs.declared.Params.{Params}
use Rattle.end.specs.declared.Request.{Request}
use Rattle.end.specs.Parts.{Soon}
use Rattle.end.specs.declared.Slot.TheVariants.{Waiting}
use Rattle.end.specs.Event.{Action, Else, Report as Reporting}
use Rattle.end.specs.Opening.{house_params}
use Rattle.guarantees.specs.Calls.{OneCall, after_all}
use Rattle.guarantees.specs.Records.{slot_of, request_of}
use Rattle.guarantees.specs.Turn.{Always, Sometime}
use Rattle.cases.specs.Timed.{repairs}
use Rattle.cases.specs.Express.{expresses}
use Rattle.recovery.specs.Recovery.{Side, opened, begun, Recovery, lookback, LaterThan, Passes, Passed, RecoversBy}
use Rattle.recovery.specs.Answered.{answered_by}
use Rattle.recovery.specs.Losses.{Between, LongRound, FirstAsks, losses_by}
use Rattle.recovery.specs.Outage.{Outlasts, outage_by}
use Rattle.recovery.specs.Several.{EachSupposed, WholeAmong, AllPassed}
use Rattle.recovery.specs.Detection.{Listens, ReportsEvery, detected_by, KnownBy}
use Rattle.recovery.specs.Express.{BothStay, ExpressInTime, ExpressReaches, ExpressReturns, express_by}
use Rattle.recovery_cases.specs.Needs.{Reached, Missed}
use Rattle.recovery_cases.specs.Calls.{at, slow, fire, past, cue, request, repair, report, heard0, sent, heard_both, side, between, prompt}

-- ---- several holders: the list of the loss (Rounds.antt), in which the request of 2072 reaches host 2, and not the source
abbrev pub among_asker : List OneCall
among_asker = slow 32 (cue 2) ∷ slow 712 fire ∷ slow 2072 fire ∷ at 2092 (repair 2 2082 1) ∷ past 2113 ∷ []

abbrev pub among : Recovery
among = between (side 1 prompt heard0 among_asker) (side 0 prompt sent (past 2113 ∷ [])) 10 40

abbrev pub another : Side
another = side 2 prompt heard_both (at 2082 (request 1 2072) ∷ at 2082 fire ∷ past 2113 ∷ [])

abbrev pub others : List Side
others = another ∷ []

-- the second request, due at 2072
abbrev pub second : Request
second = record { round = 2; due = 2072; quiet = 1352 }

abbrev pub among_mid : List OneCall
among_mid = slow 32 (cue 2) ∷ slow 712 fire ∷ []

abbrev pub among_rest : List OneCall
among_rest = slow 2072 fire ∷ at 2092 (repair 2 2082 1) ∷ past 2113 ∷ []

-- `AnsweredAmong`, from t1 = 712 on: the bound is 2092
abbrev pub answered_among : List (Type 0)
answered_among =
    let e = after_all (begun among.asker) among_mid in
    EachSupposed among others 712
    ∷ (request_of e 0 1 ≡ some second)
    ∷ Always (LaterThan among.asker (712 + lookback among)) e among_rest
    ∷ WholeAmong among others (λ t. (712 < t) × (t + 10 ≤ answered_by among second))
    ∷ Passes among.asker (answered_by among second) e among_rest
    ∷ AllPassed among others (answered_by among second)
    ∷ []

-- `RecoversAmong`: J is 1 and k is 1; the bound is 2092
abbrev pub recovers_among : List (Type 0)
recovers_among =
    EachSupposed among others 32
    ∷ FirstAsks among 32 1
    ∷ LongRound among 40 1
    ∷ Always (Between among 40 40) (begun among.asker) among.asker.later
    ∷ WholeAmong among others (λ t. (32 < t) × (Memᴰ t (712 ∷ []) → ⊥))
    ∷ Passed among.asker (losses_by among 40 32 1 2)
    ∷ AllPassed among others (losses_by among 40 32 1 2)
    ∷ []

-- `AfterOutageAmong`: t1 is 712 and F is 2; the bound is 2112
abbrev pub after_outage_among : List (Type 0)
after_outage_among =
    EachSupposed among others 712
    ∷ FirstAsks among 32 1
    ∷ (32 ≤ 712 + lookback among)
    ∷ Outlasts among 40 712 32 1 2
    ∷ Always (Between among 40 40) (begun among.asker) among.asker.later
    ∷ WholeAmong among others (λ t. (712 < t) × (t + 10 ≤ outage_by among 40 712 2))
    ∷ Passed among.asker (outage_by among 40 712 2)
    ∷ AllPassed among others (outage_by among 40 712 2)
    ∷ []

-- ---- detection

-- an asker, a reporter that is to report in every 100 ticks from t0 = 50 on, and the times of the reports that the asker misses
pub record Detecting : Type 0 where
  pub recovery : Recovery
  pub reporter : Side
  pub missed : List ℕ

abbrev pub detecting_by : Detecting → ℕ
detecting_by r = detected_by r.recovery 100 50 (length r.missed)

abbrev pub detecting_supposes : Detecting → List (Type 0)
detecting_supposes r =
    Listens r.recovery
    ∷ (same_host (opened r.reporter).host (opened r.recovery.asker).host ≡ false)
    ∷ ReportsEvery r.recovery r.reporter 100 50 (50 + length r.missed * 100) r.missed
    ∷ []

abbrev pub Known : Detecting → ℕ → Type 0
Known r t = Sometime (KnownBy r.recovery t) (begun r.recovery.asker) r.recovery.asker.later

-- a report of number 1 by a host
abbrev pub report_of : ℕ → ℕ → Action
report_of host clock = report host clock (record { source = as_host 0; last = as_number 1 } ∷ [])

abbrev pub detecting : List OneCall → Side → List ℕ → Detecting
detecting later x missed = record { recovery = between (side 1 house_params heard0 later) x 10 40; reporter = x; missed = missed }

-- The source reports at 150 and at 250. The report of 150 is lost to the asker, that of 250 comes at 260, the very bound: 50 + 2×100 + 10.
abbrev pub reported : Detecting
reported = detecting (at 260 (report_of 0 250) ∷ []) (side 0 house_params sent (at 150 (Else Reporting) ∷ at 250 (Else Reporting) ∷ [])) (150 ∷ [])

-- the reporter has the asker's own number, so that the asker takes its report for one of its own; and it reports too late, at 151
abbrev pub reported_by_one : Detecting
reported_by_one = detecting (at 155 (report_of 1 150) ∷ past 161 ∷ []) (side 1 house_params heard_both (at 150 (Else Reporting) ∷ [])) []

abbrev pub reported_late : Detecting
reported_late = detecting (at 161 (report_of 0 151) ∷ []) (side 0 house_params sent (at 151 (Else Reporting) ∷ [])) []

-- ---- express repair

-- The express wait is 100. A repair of number 0 by host 0 for host 1 has made host 1 the requester of the pair; the gap at 200 sets an express wait for
-- number 1, due at 300, so that the bound is 320. The asker's and the holder's calls after it:
abbrev pub hasty : Params
hasty = record { c1 = 9; c2 = 8; c3 = 4; d1 = 4; d2 = 4; d3 = 8; express = 100 }

abbrev pub hastily : List OneCall → List OneCall → List OneCall → Recovery
hastily asks earlier answers =
    between (side 1 hasty (heard0 ++ (at 100 (repairs 0 99 0 1) ∷ at 200 (cue 2) ∷ [])) asks) (side 0 hasty (sent ++ earlier) answers) 10 40

abbrev pub hasty_suppose : Recovery → List (Type 0)
hasty_suppose m =
    BothStay m
    ∷ (slot_of (begun m.asker) 0 1 ≡ Waiting (record { round = 1; due = 560; quiet = 360 }) (Soon 300))
    ∷ Always (ExpressInTime m) (begun m.asker) m.asker.later
    ∷ Always (ExpressReaches m) (begun m.asker) m.asker.later
    ∷ Always (ExpressReturns m) (begun m.holder) m.holder.later
    ∷ Passed m.asker (express_by m 300)
    ∷ []

abbrev pub hasty_claims : Recovery → Type 0
hasty_claims m = RecoversBy m (express_by m 300)

-- the XPRS of 300 is answered at once, at 310, and the repair comes at 320, the very bound
abbrev pub haste : Recovery
haste = hastily (at 300 fire ∷ at 320 (repair 0 310 1) ∷ past 321 ∷ []) [] (at 310 (expresses 1 300 1 0) ∷ [])

-- the wait is not fired; the XPRS comes while the holder is quiet, by a repair of 250 for host 2; the repair is lost; the asker is called no more
abbrev pub not_fired : Recovery
not_fired = hastily (past 321 ∷ []) [] []

abbrev pub while_quiet : Recovery
while_quiet = hastily (at 300 fire ∷ past 321 ∷ []) (at 90 (request 2 80) ∷ at 250 fire ∷ []) (at 310 (expresses 1 300 1 0) ∷ [])

abbrev pub haste_lost : Recovery
haste_lost = hastily (at 300 fire ∷ past 321 ∷ []) [] (at 310 (expresses 1 300 1 0) ∷ [])

abbrev pub haste_stops : Recovery
haste_stops = hastily [] [] []

pub record OthersShown : Type 0 where
  -- several holders
  pub answered-among : Reached answered_among (RecoversBy among (answered_by among second)) (RecoversBy among 2091)
  pub recovers-among : Reached recovers_among (RecoversBy among (losses_by among 40 32 1 2)) (RecoversBy among 2091)
  pub after_outage_among_lem : Reached after_outage_among (RecoversBy among (outage_by among 40 712 2)) (RecoversBy among 2091)
  -- detection, met, and what it supposes of the reporter needed
  pub detected : Reached (detecting_supposes reported) (Known reported (detecting_by reported)) (Known reported 259)
  pub apart : Missed 1 (detecting_supposes reported_by_one) (Known reported_by_one (detecting_by reported_by_one))
  pub reports : Missed 2 (detecting_supposes reported_late) (Known reported_late (detecting_by reported_late))
  -- express repair, met, and what it supposes of its own needed
  pub express : Reached (hasty_suppose haste) (hasty_claims haste) (RecoversBy haste 319)
  pub fired : Missed 2 (hasty_suppose not_fired) (hasty_claims not_fired)
  pub express-reaches : Missed 3 (hasty_suppose while_quiet) (hasty_claims while_quiet)
  pub express-returns : Missed 4 (hasty_suppose haste_lost) (hasty_claims haste_lost)
  pub passed : Missed 5 (hasty_suppose haste_stops) (hasty_claims haste_stops)
