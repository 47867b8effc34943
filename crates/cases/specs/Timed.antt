-- Lists of calls whose answers show a time or a distance: a wait is due when Fire first takes it, a reply-quiet time is over when a RQST
-- is first taken. Document 01, "Events". The ends are members of which nothing is kept.
use Rattle.std.specs.Prelude.{ℕ, ◌+◌, ◌-◌, ◌*◌, List, [], ◌∷◌, ◌++◌, replicate, set}
use Rattle.message.specs.Limit.{ticks_limit}
use Rattle.message.specs.Entry.{as_host, as_number}
use Rattle.message.specs.Message.{RQST, REPL, SESS, bytes_of}
use Rattle.message.specs.declared.Report.{Report}
use Rattle.end.specs.declared.Params.{Params}
use Rattle.end.specs.declared.Status.TheVariants.{Member}
use Rattle.end.specs.State.{fresh_end}
use Rattle.end.specs.Round.{factor, half_trip}
use Rattle.end.specs.Answer.{Out, Done, Ignored, Nothing}
use Rattle.end.specs.Event.{Action, Send, Arrival, Else, Fire}
use Rattle.end.specs.Answer.{Outcome, Did}
use Rattle.end.specs.Opening.{house_params}
use Rattle.end.specs.Run.{World, Call, seen}
use Rattle.cases.specs.Case.{Case, case}
use Rattle.cases.specs.Listing.{call, minus_two, got, about, message0, message2, outcomes}

abbrev pub members : Params → World
members p = record { ends = λ h. fresh_end (as_host h) p Member; sent = [] }

-- a call whose draw at one cue number is u, and 0 at the others
abbrev pub drawn : ℕ → ℕ → Call → Call
drawn n u c = record { host = c.host; action = c.action; clock = c.clock; output = c.output; draws = set (replicate 64 0) n u }

-- what an end hears of another: RQST and REPL for name 0,n
abbrev pub asks : ℕ → ℕ → ℕ → Action
asks h clock n = Arrival (about RQST h clock n h [])

abbrev pub repairs : ℕ → ℕ → ℕ → ℕ → Action
repairs h clock n requester = Arrival (about REPL h clock n requester (minus_two ∷ []))

-- Fire one tick before a time, and at it
abbrev pub fires : ℕ → ℕ → List Call
fires h due = call h (due - 1) (Else Fire) ∷ call h due (Else Fire) ∷ []

-- nothing is due before, and then a request of end 1, or a repair of end 0 for end 1, goes out for name 0,n
abbrev pub request_out : ℕ → ℕ → List Outcome
request_out due n = Did Nothing ∷ Did (Out (about RQST 1 due n 1 [])) ∷ []

abbrev pub repair_out : ℕ → ℕ → List Outcome
repair_out due n = Did Nothing ∷ Did (Out (about REPL 0 due n 1 (minus_two ∷ []))) ∷ []

-- RQST of end 3 for name 0,n one tick before a time, and at it: the reply-quiet time
abbrev pub asked : ℕ → ℕ → ℕ → List Call
asked h quiet n = call h (quiet - 1) (asks 3 0 n) ∷ call h quiet (asks 3 0 n) ∷ []

abbrev pub quiet_to : List Outcome
quiet_to = Did Ignored ∷ Did Done ∷ []

-- a list of calls on such ends gives these answers
abbrev pub gives : Params → List Call → List Outcome → Case
gives p calls answers = case (outcomes (seen (members p) calls)) answers

-- ---- "Setting round k at clock t, F = 2^(k−1), d the distance to the source, u the draw at the cue number: due = t + F×C1×d +
-- floor(F×C2×d×u/255)", with "the wait's share is floor(.. × u/65535)" of document 02, P1: round 1 at clock 32, at 40 ms, is due at
-- 32 + 360 + floor(320×u/65535)
abbrev pub gap : ℕ → ℕ → List Call
gap u due = call 1 12 (Arrival message0) ∷ drawn 1 u (call 1 32 (Arrival message2)) ∷ fires 1 due

abbrev pub gap_gives : ℕ → List Outcome
gap_gives due = got 0 ∷ got 2 ∷ request_out due 1

-- round 2 at clock 100 is due at 100 + 720 + floor(640×u/65535)
abbrev pub learnt : ℕ → ℕ → List Call
learnt u due = call 1 12 (Arrival message0) ∷ drawn 1 u (call 1 100 (asks 2 99 1)) ∷ fires 1 due

-- "A request goes out as RQST and its next round is set", by the draw of that Fire: at clock 392
abbrev pub again : ℕ → ℕ → List Call
again u due = call 1 12 (Arrival message0) ∷ call 1 32 (Arrival message2) ∷ drawn 1 u (call 1 392 (Else Fire)) ∷ fires 1 due

-- ---- "set a reply due at t + D1×d + floor(D2×d×u/255), d to the requester", "Requests and replies both have the new share": asked at
-- clock 100, at 40 ms, it is due at 100 + 160 + floor(160×u/65535)
abbrev pub answering : ℕ → ℕ → List Call
answering u due = call 0 10 (Send minus_two) ∷ drawn 0 u (call 0 100 (asks 1 99 0)) ∷ fires 0 due

abbrev pub answering_gives : ℕ → List Outcome
answering_gives due = Did (Out message0) ∷ Did Done ∷ repair_out due 0

-- with D1 3, D2 5 and D3 8 quarters and u 32896 at 100 + 120 + 100; as it goes out "reply-quiet = t + D3×d"
abbrev pub reply_params : Params
reply_params = record { c1 = 9; c2 = 8; c3 = 4; d1 = 3; d2 = 5; d3 = 8; express = 0 }

abbrev pub replied : List Call
replied = call 0 10 (Send minus_two) ∷ drawn 0 32896 (call 0 100 (asks 1 99 0)) ∷ fires 0 320 ++ asked 0 640 0

-- ---- "an echo of oneself, by that echo's stamp and held ticks, with e = clock − stamp − held ≥ 0 sets the distance to the sender ..", as
-- document 02, P2, rounds it: then a gap, name 0,1, is due 9×d after the clock
abbrev pub tells : ℕ → ℕ → List Report → Action
tells stamp held reports = Arrival (bytes_of (record {
  kind = SESS;
  sender = as_host 0;
  stamp = 0;
  names = [];
  cues = [];
  reports = reports;
  echoes = record { host = as_host 1; stamp = stamp; held = held } ∷ [];
}))

abbrev pub measuring : ℕ → ℕ → ℕ → ℕ → List Call
measuring stamp held clock d =
    call 1 12 (Arrival message0) ∷ call 1 clock (tells stamp held []) ∷ call 1 clock (Arrival message2) ∷ fires 1 (clock + 9 * d)

abbrev pub measuring_gives : ℕ → ℕ → List Outcome
measuring_gives clock d = got 0 ∷ Did Done ∷ got 2 ∷ request_out (clock + 9 * d) 1

-- a report of the gap beside the echo: "After that, an echo ..", so the gap's round is set by the distance before
abbrev pub reported_first : List Call
reported_first =
    call 1 12 (Arrival message0)
    ∷ call 1 100 (tells 15 5 (record { source = as_host 0; last = as_number 1 } ∷ []))
    ∷ fires 1 460

unfoldable pub timed_rows : List Case
timed_rows =
    -- round 1 and a reply at the draws 0, 32768 and 65535
    gives house_params (gap 0 392) (gap_gives 392)
    ∷ gives house_params (gap 32768 552) (gap_gives 552)
    ∷ gives house_params (gap 65535 712) (gap_gives 712)
    ∷ gives house_params (answering 0 260) (answering_gives 260)
    ∷ gives house_params (answering 32768 340) (answering_gives 340)
    ∷ gives house_params (answering 65535 420) (answering_gives 420)
    -- round 2 at the draws 65535 and 25700
    ∷ gives house_params (learnt 65535 1460) (got 0 ∷ Did Done ∷ request_out 1460 1)
    ∷ gives house_params (learnt 25700 1070) (got 0 ∷ Did Done ∷ request_out 1070 1)
    ∷ gives house_params (again 65535 1752) (got 0 ∷ got 2 ∷ Did (Out (about RQST 1 392 1 1 [])) ∷ request_out 1752 1)
    ∷ gives reply_params replied (Did (Out message0) ∷ Did Done ∷ repair_out 320 0 ++ quiet_to)
    -- "e = 80 gives 10 ms; e = 0 gives 1"; "So e = 87 gives 11, e = 80 still 10"; below 0 nothing is set; e = 9000 gives 1000 ms
    ∷ gives house_params (measuring 15 5 100 10) (measuring_gives 100 10)
    ∷ gives house_params (measuring 8 5 100 11) (measuring_gives 100 11)
    ∷ gives house_params (measuring 60 40 100 1) (measuring_gives 100 1)
    ∷ gives house_params (measuring 60 41 100 40) (measuring_gives 100 40)
    ∷ gives house_params (measuring 0 0 9000 1000) (measuring_gives 9000 1000)
    ∷ gives house_params reported_first (got 0 ∷ Did Done ∷ request_out 460 1)
    ∷ []

-- "The distance is now the least whole number of milliseconds that is at least e/8, then brought into 1..1000." (document 02, P2): the half
-- trips of some e
unfoldable pub half_trip_rows : List Case
half_trip_rows =
    case (half_trip 87) 11
    ∷ case (half_trip 80) 10
    ∷ case (half_trip 0) 1
    ∷ case (half_trip 1) 1
    ∷ case (half_trip 8) 1
    ∷ case (half_trip 9) 2
    ∷ case (half_trip 7993) 1000
    ∷ case (half_trip 8000) 1000
    ∷ case (half_trip 8001) 1000
    ∷ case (half_trip (ticks_limit - 1)) 1000
    ∷ []

-- "the factor worked out is shown to be 2^(k−1) in each round" (document 02, P6): the sixteen factors
unfoldable pub factor_rows : List Case
factor_rows =
    case (factor 1) 1
    ∷ case (factor 2) 2
    ∷ case (factor 3) 4
    ∷ case (factor 4) 8
    ∷ case (factor 5) 16
    ∷ case (factor 6) 32
    ∷ case (factor 7) 64
    ∷ case (factor 8) 128
    ∷ case (factor 9) 256
    ∷ case (factor 10) 512
    ∷ case (factor 11) 1024
    ∷ case (factor 12) 2048
    ∷ case (factor 13) 4096
    ∷ case (factor 14) 8192
    ∷ case (factor 15) 16384
    ∷ case (factor 16) 32768
    ∷ []
