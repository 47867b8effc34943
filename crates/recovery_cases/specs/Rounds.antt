-- `Steady`, `Recovers` and `AfterOutage` on computed lists: lists in which all that they suppose holds; and for each thing that they suppose of their own,
-- as `LongRound`, `Between` and `Outlasts`, a list in which that alone fails and the bound is missed (but for the lower part of `Between` after an outage,
-- and that the asker asks at all). That what they suppose of the ends and the network is needed is shown in OneRound.antt.
use Rattle.std.specs.Prelude.{refl, List, [], ◌∷◌, ◌++◌, ℕ}
use Rattle.end.specs.declared.Params.{Params}
use Rattle.end.specs.Opening.{house_params}
use Rattle.guarantees.specs.Calls.{OneCall}
use Rattle.recovery.specs.Recovery.{Recovery}
use Rattle.recovery_cases.specs.Needs.{Met, Needed, Steadily, steadying, Rounds, recovering, Outage, outlasting}
use Rattle.recovery_cases.specs.Calls.{at, slow, fire, past, cue, request, echo, repair, heard0, sent, side, between, prompt}

-- ---- the steady state, with the house's parameters and every wait as long as it can be

-- The holder has the cue since t1 = 20; the asker learns of it by the gap of t0 = 400, asks at 1080, and has the repair of 1410 at 1420, the very bound:
-- 400 + 680 + 20 + 320.
abbrev pub steady_rest : List OneCall
steady_rest = slow 1080 fire ∷ at 1420 (repair 0 1410 1) ∷ past 1421 ∷ []

abbrev pub steady : Steadily
steady = record {
  recovery = between (side 1 house_params heard0 (slow 400 (cue 2) ∷ steady_rest))
      (side 0 house_params sent (slow 1090 (request 1 1080) ∷ at 1410 fire ∷ past 1421 ∷ [])) 10 40;
  t1 = 20;
  far = 40;
  mid = [];
  call = slow 400 (cue 2);
  rest = steady_rest;
  parts = refl;
  request = record { round = 1; due = 1080; quiet = 560 };
}

-- ---- a loss, with the parameters `prompt` and every wait as long as it can be

-- The request of 712 is lost. That of 2072 is heard, and answered at once, at 2082; the cue is got at 2092.
abbrev pub loss_asker : List OneCall
loss_asker = slow 32 (cue 2) ∷ slow 712 fire ∷ slow 2072 fire ∷ at 2092 (repair 0 2082 1) ∷ []

abbrev pub loss_holder : List OneCall
loss_holder = at 2082 (request 1 2072) ∷ at 2082 fire ∷ []

-- both ends have passed a time
abbrev pub loss : ℕ → Recovery
loss passed = between (side 1 prompt heard0 (loss_asker ++ (past passed ∷ []))) (side 0 prompt sent (loss_holder ++ (past passed ∷ []))) 10 40

-- `Recovers`: J is 1 and k is 1, so the bound is 32 + 3×680 + 20, met exactly
abbrev pub loss_rounds : Rounds
loss_rounds = record { recovery = loss 2093; near = 40; far = 40; t1 = 32; t0 = 32; round = 1; j = 1; lost = 712 ∷ [] }

-- `AfterOutage`: the outage ends at t1 = 712, F is 2, so the bound is 712 + 20 + 2×680 + 20
abbrev pub loss_outage : Outage
loss_outage = record { recovery = loss 2113; near = 40; far = 40; t1 = 712; t0 = 32; round = 1; f = 2 }

-- ---- `Outlasts` alone fails: F is taken for 1, though round 2 is set at 712; the bound is 1432, and the next request is due at 2072
abbrev pub outage_longer : Outage
outage_longer = record {
  recovery = between (side 1 prompt heard0 (slow 32 (cue 2) ∷ slow 712 fire ∷ past 1433 ∷ [])) (side 0 prompt sent (past 1433 ∷ [])) 10 40;
  near = 40;
  far = 40;
  t1 = 712;
  t0 = 32;
  round = 1;
  f = 1;
}

-- ---- round 1 is too short, with the house's parameters

-- The asker's distance is 84. At t0 = 800 a repair of host 3 for host 2 goes out, is lost to the asker, and makes the holder, who hears it at 810, quiet
-- up to 1130. A request of host 2, put out at 1127, is heard by the holder at once, and passed over, and by the asker at 1137, just after its quiet time:
-- its next request is due at 2649, after the bound for J = 1, 800 + 1428 + 340.
abbrev pub nearby : Recovery
nearby = between (side 1 house_params (heard0 ++ (at 700 (echo 0 1 28) ∷ [])) (at 800 (cue 2) ∷ at 1137 (request 2 1127) ∷ past 2569 ∷ []))
    (side 0 house_params sent (at 810 (repair 3 800 2) ∷ at 1127 (request 2 1127) ∷ past 2569 ∷ [])) 10 40

-- J = 1 is not long enough at a distance of 84
abbrev pub quiet_too_short : Rounds
quiet_too_short = record { recovery = nearby; near = 84; far = 84; t1 = 800; t0 = 800; round = 1; j = 1; lost = [] }

-- It would be at 170, which the asker's distance is not. The next round is set at 1137 as late as can be: the request goes out at 3993, the holder takes
-- it at 4003, and its reply is due at 4163, after the bound, 800 + 17×170 + 340 = 4030.
abbrev pub nearer_than : Rounds
nearer_than = record {
  recovery = between
      (side 1 house_params (heard0 ++ (at 700 (echo 0 1 28) ∷ [])) (at 800 (cue 2) ∷ slow 1137 (request 2 1127) ∷ at 3993 fire ∷ past 4031 ∷ []))
      (side 0 house_params sent (at 810 (repair 3 800 2) ∷ at 1127 (request 2 1127) ∷ at 4003 (request 1 3993) ∷ past 4031 ∷ []))
      10 40;
  near = 170;
  far = 170;
  t1 = 800;
  t0 = 800;
  round = 1;
  j = 1;
  lost = [];
}

-- the asker's distance is 1000, and not up to 40: its first request is due at 17010, after the bound for J = 3, 8010 + 7×680 + 340
abbrev pub farther_than : Rounds
farther_than = record {
  recovery = between (side 1 house_params (heard0 ++ (at 8000 (echo 0 1 0) ∷ [])) (at 8010 (cue 2) ∷ past 13111 ∷ []))
      (side 0 house_params sent (past 13111 ∷ []))
      10 40;
  near = 40;
  far = 40;
  t1 = 8000;
  t0 = 8010;
  round = 1;
  j = 3;
  lost = [];
}

-- ---- the round after it is too short, with D3 = 0

-- The asker's distance to the source is 10, the holder's to the asker 100. The reply to the request of 890 waits up to 1699, and is lost; the requests of
-- 1070 and 1430 find it waiting. The next is due at 2150, which is the bound for J = 1 and k = 1: 800 + 3×170 + 40 + 800.
abbrev pub never_quiet : Params
never_quiet = record { c1 = 9; c2 = 8; c3 = 4; d1 = 4; d2 = 4; d3 = 0; express = 0 }

abbrev pub next_too_short : Rounds
next_too_short = record {
  recovery = between
      (side 1 never_quiet (heard0 ++ (at 90 (echo 0 1 10) ∷ [])) (at 800 (cue 2) ∷ at 890 fire ∷ at 1070 fire ∷ at 1430 fire ∷ at 2150 fire ∷ past 2151 ∷ []))
      (side 0 never_quiet (sent ++ (at 799 (echo 1 0 0) ∷ []))
      (slow 899 (request 1 890) ∷ at 1079 (request 1 1070) ∷ at 1439 (request 1 1430) ∷ at 1699 fire ∷ at 2150 (request 1 2150) ∷ past 2151 ∷ []))
      20 100;
  near = 10;
  far = 10;
  t1 = 800;
  t0 = 800;
  round = 1;
  j = 1;
  lost = 1699 ∷ [];
}

-- ---- other things that `Steady`, `Recovers` and `AfterOutage` suppose of their own

-- the steady list, with a distance taken for at most 30
abbrev pub steady_farther : Steadily
steady_farther = record {
  recovery = steady.recovery;
  t1 = 20;
  far = 30;
  mid = [];
  call = steady.call;
  rest = steady.rest;
  parts = refl;
  request = steady.request;
}

-- A repair of 260 for host 2, lost to the asker, has made the holder quiet up to 580. The asker's distance is 30: it asks too soon after t1 = 300, at 575,
-- and is passed over; its request of 1115 is answered at 1280, after the bound, 305 + 510 + 340.
abbrev pub too_soon_rest : List OneCall
too_soon_rest = at 575 fire ∷ at 1115 fire ∷ past 1156 ∷ []

abbrev pub too_soon : Steadily
too_soon = record {
  recovery = between (side 1 house_params (heard0 ++ (at 250 (echo 0 1 10) ∷ [])) (at 305 (cue 2) ∷ too_soon_rest))
      (side 0 house_params (sent ++ (at 100 (request 2 90) ∷ at 260 fire ∷ []))
      (at 579 (request 1 575) ∷ at 1120 (request 1 1115) ∷ past 1156 ∷ []))
      10 40;
  t1 = 300;
  far = 30;
  mid = [];
  call = at 305 (cue 2);
  rest = too_soon_rest;
  parts = refl;
  request = record { round = 1; due = 575; quiet = 425 };
}

-- the holder gets the cue at 1990 only, after t0 = 32
abbrev pub held_later : Rounds
held_later = record {
  recovery = between (side 1 prompt heard0 (slow 32 (cue 2) ∷ slow 712 fire ∷ past 733 ∷ []))
      (side 2 prompt (heard0 ++ (at 722 (request 1 712) ∷ at 1990 (cue 1) ∷ [])) (past 2001 ∷ [])) 10 40;
  near = 40;
  far = 40;
  t1 = 2000;
  t0 = 32;
  round = 1;
  j = 1;
  lost = [];
}

-- the asker learns of the cue by another's request, so in round 2, and J is 1
abbrev pub second_round : Rounds
second_round = record {
  recovery = between (side 1 prompt heard0 (slow 32 (request 2 31) ∷ past 53 ∷ [])) (side 0 prompt sent (past 53 ∷ [])) 10 40;
  near = 40;
  far = 40;
  t1 = 32;
  t0 = 32;
  round = 2;
  j = 1;
  lost = [];
}

-- the asker asks at 500 only, long after the outage
abbrev pub asked_later : Outage
asked_later = record {
  recovery = between (side 1 prompt heard0 (slow 500 (cue 2) ∷ [])) (side 0 prompt sent (past 61 ∷ [])) 10 40;
  near = 40;
  far = 40;
  t1 = 20;
  t0 = 500;
  round = 1;
  f = 0;
}

-- the list of `farther_than`, whose distance is not up to 40
abbrev pub outage_farther : Outage
outage_farther = record { recovery = farther_than.recovery; near = 40; far = 40; t1 = 8000; t0 = 8010; round = 1; f = 2 }

-- ---- starved, though the two hear each other perfectly, with the house's parameters: the bound for J = 3 is 32 + 7×680 + 340 = 5132

-- Just after each quiet time the asker hears a request of host 2 that is lost to the holder: it sets its next round, and never asks. It may go on so for
-- ever, since every round's quiet time is over before its request is due.
abbrev pub starved_by_requests : Rounds
starved_by_requests = record {
  recovery = between
      (side 1 house_params heard0
      (at 32 (cue 2) ∷ at 193 (request 2 193) ∷ at 514 (request 2 514) ∷ at 1155 (request 2 1155) ∷ at 2436 (request 2 2436) ∷ past 5133 ∷ []))
      (side 0 house_params sent (past 5133 ∷ [])) 10 40;
  near = 40;
  far = 40;
  t1 = 32;
  t0 = 32;
  round = 1;
  j = 3;
  lost = [];
}

-- Just before each request of the asker the holder hears a repair of host 2 for host 3 that is lost to the asker: it is quiet, and passes the request over.
-- It may go on so for ever, by a repair before each request.
abbrev pub starved_by_repairs : Rounds
starved_by_repairs = record {
  recovery = between (side 1 house_params heard0 (at 32 (cue 2) ∷ at 392 fire ∷ at 1112 fire ∷ at 2552 fire ∷ past 5133 ∷ []))
      (side 0 house_params sent
      (at 399 (repair 2 398 3) ∷ at 400 (request 1 392) ∷ at 1119 (repair 2 1118 3) ∷ at 1120 (request 1 1112) ∷ at 2559 (repair 2 2558 3)
      ∷ at 2560 (request 1 2552) ∷ past 5133 ∷ []))
      10 40;
  near = 40;
  far = 40;
  t1 = 32;
  t0 = 32;
  round = 1;
  j = 3;
  lost = [];
}

pub record RoundsShown : Type 0 where
  -- met
  pub steady : Met (steadying steady) 1419
  pub loss : Met (recovering loss_rounds) 2091
  pub outage : Met (outlasting loss_outage) 2091
  -- needed: of `Steady` the distance and that it asks late enough
  pub steady-far : Needed 24 (steadying steady_farther)
  pub steady-late : Needed 25 (steadying too_soon)
  -- of `Recovers` that the holder has the cue at t0, that J is not before the first round, both parts of `LongRound`, and both of `Between`
  pub held_at_first : Needed 22 (recovering held_later)
  pub first_round : Needed 24 (recovering second_round)
  pub quiet : Needed 25 (recovering quiet_too_short)
  pub next : Needed 26 (recovering next_too_short)
  pub near : Needed 27 (recovering nearer_than)
  pub far : Needed 27 (recovering farther_than)
  -- and what is supposed of others' requests and repairs, without which the asker may be starved for ever
  pub shared_requests : Needed 19 (recovering starved_by_requests)
  pub shared_repairs : Needed 21 (recovering starved_by_repairs)
  -- of `AfterOutage` that it asks early enough, `Outlasts`, and the upper part of `Between`
  pub asked_by : Needed 23 (outlasting asked_later)
  pub outlasts : Needed 24 (outlasting outage_longer)
  pub outage-far : Needed 25 (outlasting outage_farther)
