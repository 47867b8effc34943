-- `Answered` on computed lists, with the house's parameters, Δ = 10 and Λ = 0: lists in which all that it supposes holds, among them document 01's listing;
-- and for each thing that it supposes a list in which that alone fails and the cue is not got by the bound. Not among these: that the source is
-- another's than the asker's and that the asker lacks the cue at the beginning, without which no request waits later; that the request waits; that the
-- source is a host; and that draws have their declared type.
use Rattle.std.specs.Prelude.{refl, List, [], ◌∷◌, ◌++◌, ℕ}
use Rattle.end.specs.declared.Request.{Request}
use Rattle.end.specs.declared.Move.TheVariants.{Leave}
use Rattle.end.specs.Event.{Moves, Send}
use Rattle.end.specs.Opening.{house_params}
use Rattle.guarantees.specs.Calls.{OneCall}
use Rattle.cases.specs.Listing.{minus_two}
use Rattle.recovery_cases.specs.Needs.{Met, Needed, OneRound, answering}
use Rattle.recovery_cases.specs.Calls.{at, slow, fire, past, cue, request, repair, echo, joined, heard0, sent, heard_both, side, between}

-- The asker is host 1. `first` is the request for number 1 that it sets where it hears number 2 at 32: due at 392, so the bound is 732.
abbrev pub first : Request
first = record { round = 1; due = 392; quiet = 192 }

abbrev pub gap : List OneCall
gap = at 32 (cue 2) ∷ []

abbrev pub asked : List OneCall
asked = at 392 fire ∷ past 733 ∷ []

-- the holder's host, its calls up to t1 = 20, and those after; the asker's after the gap
abbrev pub row : List OneCall → ℕ → List OneCall → List OneCall → OneRound
row rest host earlier later = record {
  recovery = between (side 1 house_params heard0 (gap ++ rest)) (side host house_params earlier later) 10 40;
  t1 = 20;
  mid = gap;
  rest = rest;
  parts = refl;
  request = first;
}

-- ---- all holds

-- document 01's listing: number 1 is got at 570
abbrev pub listing : OneRound
listing = row (at 391 fire ∷ at 392 fire ∷ at 570 (repair 0 560 1) ∷ past 733 ∷ []) 0 sent
    (at 30 (Send minus_two) ∷ at 400 (request 1 392) ∷ at 560 fire ∷ past 733 ∷ [])

-- every wait as long as it can be: the request of 32 is due at 712, the reply to it at 722 + 320, and the cue is got at 1052, the very bound
abbrev pub slowest : OneRound
slowest = record {
  recovery = between (side 1 house_params heard0 (slow 32 (cue 2) ∷ slow 712 fire ∷ at 1052 (repair 0 1042 1) ∷ past 1053 ∷ []))
      (side 0 house_params sent (slow 722 (request 1 712) ∷ at 1042 fire ∷ past 1053 ∷ [])) 10 40;
  t1 = 20;
  mid = slow 32 (cue 2) ∷ [];
  rest = slow 712 fire ∷ at 1052 (repair 0 1042 1) ∷ past 1053 ∷ [];
  parts = refl;
  request = record { round = 1; due = 712; quiet = 192 };
}

-- ---- one thing fails

-- the holder has the asker's own number, and takes its request for one of its own
abbrev pub same_number : OneRound
same_number = row asked 1 heard_both (at 400 (request 1 392) ∷ past 733 ∷ [])

-- the repair has gone out, and was lost, among the holder's earlier calls, but after t1
abbrev pub holder_later : OneRound
holder_later = row asked 0 (sent ++ (at 400 (request 1 392) ∷ at 560 fire ∷ [])) (past 733 ∷ [])

-- the holder does not hold the cue
abbrev pub lacking : OneRound
lacking = row asked 2 heard0 (at 400 (request 1 392) ∷ past 733 ∷ [])

abbrev pub asker_leaves : OneRound
asker_leaves = row (at 392 fire ∷ at 500 (Moves Leave) ∷ at 570 (repair 0 560 1) ∷ past 733 ∷ []) 0 sent
    (at 400 (request 1 392) ∷ at 560 fire ∷ past 733 ∷ [])

abbrev pub holder_leaves : OneRound
holder_leaves = row asked 0 sent (at 400 (request 1 392) ∷ at 500 (Moves Leave) ∷ past 733 ∷ [])

-- number 80 comes, by which 1 is retired
abbrev pub asker_retires : OneRound
asker_retires = row (at 392 fire ∷ at 500 (cue 80) ∷ at 570 (repair 0 560 1) ∷ past 733 ∷ []) 0 sent
    (at 400 (request 1 392) ∷ at 560 fire ∷ past 733 ∷ [])

abbrev pub holder_retires : OneRound
holder_retires = row asked 2 heard_both (at 400 (request 1 392) ∷ at 500 (cue 80) ∷ past 733 ∷ [])

-- the request, or the reply, is not fired
abbrev pub asker_idle : OneRound
asker_idle = row (past 733 ∷ []) 0 sent (past 733 ∷ [])

abbrev pub holder_idle : OneRound
holder_idle = row asked 0 sent (at 400 (request 1 392) ∷ past 733 ∷ [])

-- a session message sets the holder's distance to the asker to 50, and its draw is the greatest: its reply is due at 800
abbrev pub far_away : OneRound
far_away = row asked 0 sent (at 399 (echo 1 0 0) ∷ slow 400 (request 1 392) ∷ past 733 ∷ [])

-- the asker's request is lost; another's request, by which its next round is set, is lost to the holder
abbrev pub request_lost : OneRound
request_lost = row asked 0 sent (past 733 ∷ [])

abbrev pub other_request_lost : OneRound
other_request_lost = row (at 370 (request 2 369) ∷ past 733 ∷ []) 0 sent (past 733 ∷ [])

-- the repair is lost; another's repair, for which the holder drops its own, is lost to the asker
abbrev pub repair_lost : OneRound
repair_lost = row asked 0 sent (at 400 (request 1 392) ∷ at 560 fire ∷ past 733 ∷ [])

abbrev pub other_repair_lost : OneRound
other_repair_lost = row asked 0 sent (at 400 (request 1 392) ∷ at 500 (repair 2 495 1) ∷ past 733 ∷ [])

-- one of the two is called no more
abbrev pub asker_stops : OneRound
asker_stops = row [] 0 sent (past 733 ∷ [])

abbrev pub holder_stops : OneRound
holder_stops = row asked 0 sent (at 400 (request 1 392) ∷ [])

-- a repair of before t1 = 300, for host 2, has made the holder quiet up to 580
abbrev pub too_early : OneRound
too_early = record {
  recovery = between (side 1 house_params (heard0 ++ gap) asked)
      (side 0 house_params (sent ++ (at 100 (request 2 90) ∷ at 260 fire ∷ [])) (at 400 (request 1 392) ∷ past 733 ∷ [])) 10 40;
  t1 = 300;
  mid = [];
  rest = asked;
  parts = refl;
  request = first;
}

-- Up to 1200 the holder's distance to host 2 was 100: its repair for it, of 1200, has made it quiet up to 2000. Then the distance is 1, and t1 is 1210.
abbrev pub unsettled : OneRound
unsettled = record {
  recovery = between (side 1 house_params heard0 (at 1240 (cue 2) ∷ at 1600 fire ∷ past 1941 ∷ []))
      (side 0 house_params (sent ++ (at 799 (echo 2 0 0) ∷ at 800 (request 2 790) ∷ at 1200 fire ∷ at 1201 (echo 2 0 1200) ∷ []))
      (at 1610 (request 1 1600) ∷ past 1941 ∷ []))
      10 40;
  t1 = 1210;
  mid = at 1240 (cue 2) ∷ [];
  rest = at 1600 fire ∷ past 1941 ∷ [];
  parts = refl;
  request = record { round = 1; due = 1600; quiet = 1400 };
}

-- The holder repairs number 1 for host 2 at 460, after t1, and is quiet up to 780. The asker takes this repair at 470, when it does not have the source
-- open yet; it opens it with number 0, at a distance of 30, and asks at 760.
abbrev pub opens : List OneCall
opens = at 470 (repair 0 460 2) ∷ at 480 (cue 0) ∷ at 481 (echo 0 1 241) ∷ []

abbrev pub opened_late : List OneCall → List OneCall → OneRound
opened_late earlier mid = record {
  recovery = between (side 1 house_params (joined ++ earlier) (mid ++ (at 760 fire ∷ past 1101 ∷ [])))
      (side 0 house_params sent (at 300 (request 2 290) ∷ at 460 fire ∷ at 768 (request 1 760) ∷ past 1101 ∷ [])) 10 40;
  t1 = 20;
  mid = mid;
  rest = at 760 fire ∷ past 1101 ∷ [];
  parts = refl;
  request = record { round = 1; due = 760; quiet = 610 };
}

-- these calls are later ones of the asker: it does not have the source open at the beginning; or earlier ones, but after t1
abbrev pub not_open : OneRound
not_open = opened_late [] (opens ++ (at 490 (cue 2) ∷ []))

abbrev pub asker_later : OneRound
asker_later = opened_late opens (at 490 (cue 2) ∷ [])

pub record OneRoundShown : Type 0 where
  pub listing : Met (answering listing) 569
  pub slowest : Met (answering slowest) 1051
  pub two : Needed 1 (answering same_number)
  pub asker-by : Needed 3 (answering asker_later)
  pub holder-by : Needed 4 (answering holder_later)
  pub open_there : Needed 5 (answering not_open)
  pub holds : Needed 7 (answering lacking)
  pub asker-stays : Needed 10 (answering asker_leaves)
  pub holder-stays : Needed 11 (answering holder_leaves)
  pub asker-keeps : Needed 12 (answering asker_retires)
  pub holder-keeps : Needed 13 (answering holder_retires)
  pub asker-fires : Needed 14 (answering asker_idle)
  pub holder-fires : Needed 15 (answering holder_idle)
  pub settled : Needed 16 (answering unsettled)
  pub reaches : Needed 17 (answering far_away)
  pub requests : Needed 18 (answering request_lost)
  pub requests_shared_lem : Needed 19 (answering other_request_lost)
  pub repairs : Needed 20 (answering repair_lost)
  pub repairs_shared_lem : Needed 21 (answering other_repair_lost)
  pub late : Needed 23 (answering too_early)
  pub asker-passed : Needed 24 (answering asker_stops)
  pub holder-passed : Needed 25 (answering holder_stops)
