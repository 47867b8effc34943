-- `TimelyOverNetwork` and `SteadyOverNetwork` on computed lists of calls on the eight ends of the house, of which four and three are called; and the
-- network of the first, which is whole, so that `TimelyRecovery` says it too. Δ is 10 and Λ is 0.
use Rattle.std.specs.Prelude.{◌≡◌, refl, cond, List, [], ◌∷◌, ℕ, ◌<◌, eqb}
use Rattle.std.proofs.Common.{arith}
use Rattle.message.specs.Entry.{as_host, as_number}
use Rattle.message.specs.declared.Report.{Report}
use Rattle.message.specs.declared.Verdict.TheVariants.{Accepted}
use Rattle.end.specs.declared.Move.TheVariants.{Join, Joined, Crash}
use Rattle.end.specs.Event.{Moves, Send, Arrival, Else, Report as Reporting}
use Rattle.end.specs.Opening.{house_params, opening_of}
use Rattle.end.specs.Run.{Call, Fresh}
use Rattle.cases.specs.Listing.{house, call, minus_two, message0, message1}
use Rattle.recovery.specs.Recovery.{RecoversBy}
use Rattle.recovery.specs.Whole.{Whole}
use Rattle.recovery.specs.Network.{Network}
use Rattle.recovery.specs.Timely.{Spared, timely_by, TimelySupposed, timely_steady_by, SteadySupposed, Play, sides_in, recovery_in, reporter_in, HandedOutBy}
use Rattle.recovery_cases.specs.Needs.{Reached}
use Rattle.recovery_cases.specs.Calls.{fire, request, repair, report}

-- the house's ends are from openings that were not refused
abbrev pub Opens : Type 0
Opens = (h : ℕ) → h < 8 → opening_of (as_host h) house_params ≡ record { verdict = Accepted; end = house.ends h }

abbrev pub freshly : Opens → Fresh house
freshly opens = record { ends = λ h hh. (house_params, opens h hh); sent = refl }

-- a report of number 1 of source 0
abbrev pub one : List Report
one = record { source = as_host 0; last = as_number 1 } ∷ []

-- ---- the source crashes, and the cue comes all the same

-- Host 0 sends numbers 0 and 1 and crashes; hosts 1 and 3 lack number 1, host 2 has it.
abbrev pub crashes : List Call
crashes =
    call 0 0 (Moves Join)
    ∷ call 0 0 (Moves Joined)
    ∷ call 1 0 (Moves Join)
    ∷ call 1 0 (Moves Joined)
    ∷ call 2 0 (Moves Join)
    ∷ call 2 0 (Moves Joined)
    ∷ call 3 0 (Moves Join)
    ∷ call 3 0 (Moves Joined)
    ∷ call 0 10 (Send minus_two)
    ∷ call 1 12 (Arrival message0)
    ∷ call 2 12 (Arrival message0)
    ∷ call 3 13 (Arrival message0)
    ∷ call 0 20 (Send minus_two)
    ∷ call 2 22 (Arrival message1)
    ∷ call 0 25 (Moves Crash)
    ∷ []

-- Host 2 reports in every 100 ticks from t0 = 30 on. Its report of 130 is lost to host 1, but not to host 3; that of 230 comes. Host 3 asks at 491: host 1
-- hears it, and its round 2 is set; host 2 hears it, and replies at 660, which is lost to host 1. Host 1 asks at 1215, and has the cue at 1390.
abbrev pub recovers : List Call
recovers =
    call 2 130 (Else Reporting)
    ∷ call 3 131 (report 2 130 one)
    ∷ call 2 230 (Else Reporting)
    ∷ call 1 240 (report 2 230 one)
    ∷ call 3 491 fire
    ∷ call 1 495 (request 3 491)
    ∷ call 2 500 (request 3 491)
    ∷ call 2 660 fire
    ∷ call 3 665 (repair 2 660 3)
    ∷ call 1 1215 fire
    ∷ call 2 1220 (request 1 1215)
    ∷ call 2 1380 fire
    ∷ call 1 1390 (repair 2 1380 1)
    ∷ call 1 10781 (Else Reporting)
    ∷ call 2 10781 (Else Reporting)
    ∷ []

abbrev pub crash : Opens → Play
crash opens = record {
  world = house;
  fresh = freshly opens;
  before = crashes;
  behind = recovers;
  ahead = λ k. 0;
  source = 0;
  number = 1;
  asker = 1;
  asker-is = omega arith;
  holder = 2;
  holder-is = omega arith;
  reporter = 2;
  reporter-is = omega arith;
  delay = 10;
  late = 0;
  reach = 40;
}

-- with J = 3, i = 1 report missed and k = 1 time of a loss the bound is 30 + 2×100 + 10 + 15×680 + 340 = 10780
abbrev pub crash_supposes : Opens → List (Type 0)
crash_supposes opens =
    TimelySupposed (recovery_in (crash opens)) (reporter_in (crash opens)) 40 40 100 30 3 (130 ∷ []) (660 ∷ [])
    ∷ Network (recovery_in (crash opens)) (sides_in (crash opens)) (Spared 30 (660 ∷ []))
    ∷ []

-- ---- nothing is lost but the cue itself

-- Host 0 sends numbers 0 and 1; host 1 lacks number 1, host 2 has it. The clock of host 1 lacks 7 ticks to the common time.
abbrev pub misses : List Call
misses =
    call 0 0 (Moves Join)
    ∷ call 0 0 (Moves Joined)
    ∷ call 1 0 (Moves Join)
    ∷ call 1 0 (Moves Joined)
    ∷ call 2 0 (Moves Join)
    ∷ call 2 0 (Moves Joined)
    ∷ call 0 10 (Send minus_two)
    ∷ call 1 10 (Arrival message0)
    ∷ call 2 12 (Arrival message0)
    ∷ call 0 20 (Send minus_two)
    ∷ call 2 22 (Arrival message1)
    ∷ []

-- Host 0 reports in every 100 ticks from t0 = 400 on; host 1 hears it at 510, asks at 870, and has the repair of host 2 at 1050.
abbrev pub asks_later : List Call
asks_later =
    call 0 500 (Else Reporting)
    ∷ call 1 503 (report 0 500 one)
    ∷ call 1 863 fire
    ∷ call 2 880 (request 1 863)
    ∷ call 2 1040 fire
    ∷ call 1 1043 (repair 2 1040 1)
    ∷ call 1 2210 (Else Reporting)
    ∷ call 2 2211 (Else Reporting)
    ∷ []

abbrev pub calm : Opens → Play
calm opens = record {
  world = house;
  fresh = freshly opens;
  before = misses;
  behind = asks_later;
  ahead = λ k. cond (eqb k 1) 7 0;
  source = 0;
  number = 1;
  asker = 1;
  asker-is = omega arith;
  holder = 2;
  holder-is = omega arith;
  reporter = 0;
  reporter-is = omega arith;
  delay = 10;
  late = 0;
  reach = 40;
}

-- host 2 has the cue since t1 = 22; the bound is 400 + 100 + 10 + 2×680 + 340 = 2210
abbrev pub calm_supposes : Opens → List (Type 0)
calm_supposes opens =
    SteadySupposed (recovery_in (calm opens)) (reporter_in (calm opens)) 40 100 22 400 []
    ∷ Network (recovery_in (calm opens)) (sides_in (calm opens)) (λ t. 22 < t)
    ∷ []

pub record PlaysShown : Type 0 where
  pub opens : Opens
  pub timely : Reached (crash_supposes opens) (HandedOutBy (crash opens) (timely_by (recovery_in (crash opens)) 40 100 30 1 4))
      (RecoversBy (recovery_in (crash opens)) 1389)
  pub network : Whole (recovery_in (crash opens)) (Spared 30 (660 ∷ []))
  pub steady : Reached (calm_supposes opens) (HandedOutBy (calm opens) (timely_steady_by (recovery_in (calm opens)) 40 100 400 0))
      (RecoversBy (recovery_in (calm opens)) 1049)
