-- Fetching what came before, document 02, P9: whom a Fetch tries, what it may not fetch, who answers a kind 22, what is handed out as Late; and
-- a list in which a controller that joined late gets what it lacks. Elsewhere the ends are members of which nothing is kept.
use Rattle.std.specs.Prelude.{ℕ, List, [], ◌∷◌, ◌++◌}
use Rattle.message.specs.Entry.{as_host, as_number}
use Rattle.message.specs.Message.{DATA, SESS, FTCH, LATE, bytes_of}
use Rattle.message.specs.declared.Report.{Report}
use Rattle.message.specs.declared.Echo.{Echo}
use Rattle.end.specs.Parts.{Open}
use Rattle.end.specs.declared.Move.TheVariants.{Join, Joined, Leave, Left}
use Rattle.end.specs.declared.Reason.TheVariants.{Crashed, WrongStatus, OwnMessage, NoFetch}
use Rattle.end.specs.declared.Why.TheVariants.{Because, NoReason}
use Rattle.end.specs.State.{source_at}
use Rattle.end.specs.Answer.{Out, Done, Ignored, Late, Exhausted, Outcome, Did}
use Rattle.end.specs.Event.{Action, Moves, Send, Arrival, Else, Report as Reporting, Fetch}
use Rattle.end.specs.Opening.{house_params}
use Rattle.end.specs.Run.{Call}
use Rattle.end.specs.Why.{why_of}
use Rattle.cases.specs.Case.{Case, case}
use Rattle.cases.specs.Listing.{call, minus_two, name_at, name_of, about, got, message0}
use Rattle.cases.specs.Timed.{gives}
use Rattle.cases.specs.Reasons.{end_by, crashed1, idle0, sent}

-- ---- what end 1 does and hears

-- it fetches name 0,n
abbrev pub fetch : ℕ → ℕ → Call
fetch clock n = call 1 clock (Else (Fetch (name_of n)))

-- a session message of host h with these reports and echoes; a report of source 0, and an echo of end 1 that makes e 80 at clock 100
abbrev pub tells : ℕ → List Report → List Echo → Action
tells h reports echoes =
    Arrival (bytes_of (record { kind = SESS; sender = as_host h; stamp = 9; names = []; cues = []; reports = reports; echoes = echoes }))

abbrev pub has_source : ℕ → List Report
has_source last = record { source = as_host 0; last = as_number last } ∷ []

abbrev pub ten_away : List Echo
ten_away = record { host = as_host 1; stamp = 15; held = 5 } ∷ []

-- kind 23 of name 0,n from host h, for a requester
abbrev pub brings : ℕ → ℕ → ℕ → Action
brings h n requester = Arrival (about LATE h 9 n requester (minus_two ∷ []))

-- its first original is name 0,n
abbrev pub first : ℕ → Call
first n = call 1 12 (Arrival (about DATA 0 11 n 0 (minus_two ∷ [])))

-- ---- what it answers

-- kind 22 to a host, and a cue that is handed out as Late
abbrev pub tries : ℕ → ℕ → ℕ → Outcome
tries clock n h = Did (Out (about FTCH 1 clock n h []))

abbrev pub late : ℕ → Outcome
late n = Did (Late (name_of n) minus_two)

-- ---- "Each call tries the one with the least distance, ties to the lower host, among those not yet tried for that number since joining"

-- hosts 0, 2 and 3 report source 0, host 3 is 10 ms away, the others 40, and host 4 reports nothing; the tries for another number are its own
abbrev pub candidates : List Call
candidates =
    first 5
    ∷ call 1 20 (tells 2 (has_source 5) [])
    ∷ call 1 21 (tells 0 (has_source 5) [])
    ∷ call 1 22 (tells 4 [] [])
    ∷ call 1 100 (tells 3 (has_source 5) ten_away)
    ∷ fetch 101 4
    ∷ fetch 102 4
    ∷ fetch 103 4
    ∷ fetch 104 4
    ∷ fetch 105 3
    ∷ []

abbrev pub candidates_give : List Outcome
candidates_give =
    got 5
    ∷ Did Done
    ∷ Did Done
    ∷ Did Done
    ∷ Did Done
    ∷ tries 101 4 3
    ∷ tries 102 4 0
    ∷ tries 103 4 2
    ∷ Did Exhausted
    ∷ tries 105 3 3
    ∷ []

-- "whose last heard session message since joining reported that source": none yet, one that stopped reporting, and one that reports again
abbrev pub reporters : List Call
reporters =
    first 5
    ∷ fetch 13 4
    ∷ call 1 20 (tells 2 (has_source 5) [])
    ∷ call 1 21 (tells 2 [] [])
    ∷ fetch 22 4
    ∷ call 1 23 (tells 2 (has_source 5) [])
    ∷ fetch 24 4
    ∷ []

abbrev pub reporters_give : List Outcome
reporters_give = got 5 ∷ Did Exhausted ∷ Did Done ∷ Did Done ∷ Did Exhausted ∷ Did Done ∷ tries 24 4 2 ∷ []

-- ---- "any of the 64 numbers just below the first original it had since joining from another host; any other fetch .. is Ignored"
abbrev pub edges : List Call
edges =
    call 1 5 (tells 2 (has_source 70) [])
    ∷ fetch 6 4
    ∷ first 70
    ∷ fetch 13 70
    ∷ fetch 14 69
    ∷ fetch 15 6
    ∷ fetch 16 5
    ∷ call 1 17 (Else (Fetch (name_at 1 0)))
    ∷ call 1 18 (Else (Fetch (name_at 8 69)))
    ∷ []

abbrev pub edges_give : List Outcome
edges_give = Did Done ∷ Did Ignored ∷ got 70 ∷ Did Ignored ∷ tries 14 69 2 ∷ tries 15 6 2 ∷ Did Ignored ∷ Did Ignored ∷ Did Ignored ∷ []

-- ---- "Its requester hands it out as Late .. if it has tried that sender for the number since joining, at most once since joining": not from host 3,
-- which was not tried, nor for another requester or another number; then once, and it is fetched no more
abbrev pub tried : List Call
tried = first 5 ∷ call 1 20 (tells 2 (has_source 5) []) ∷ fetch 21 4 ∷ []

abbrev pub handed : List Call
handed =
    tried
    ++ (call 1 22 (brings 3 4 1)
    ∷ call 1 23 (brings 2 4 5)
    ∷ call 1 24 (brings 2 3 1)
    ∷ call 1 25 (brings 2 4 1)
    ∷ call 1 26 (brings 2 4 1)
    ∷ fetch 27 4
    ∷ [])

abbrev pub handed_gives : List Outcome
handed_gives = got 5 ∷ Did Done ∷ tries 21 4 2 ∷ Did Ignored ∷ Did Ignored ∷ Did Ignored ∷ late 4 ∷ Did Ignored ∷ Did Ignored ∷ []

-- a rejoin clears the first original, what was reported and the tries; then all comes again
abbrev pub rejoined : List Call
rejoined =
    tried
    ++ (call 1 30 (Moves Leave)
    ∷ call 1 31 (Moves Left)
    ∷ call 1 32 (Moves Join)
    ∷ call 1 33 (Moves Joined)
    ∷ fetch 34 4
    ∷ call 1 35 (Arrival (about DATA 0 11 5 0 (minus_two ∷ [])))
    ∷ fetch 36 4
    ∷ call 1 37 (brings 2 4 1)
    ∷ call 1 38 (tells 2 (has_source 5) [])
    ∷ fetch 39 4
    ∷ call 1 40 (brings 2 4 1)
    ∷ [])

abbrev pub rejoined_gives : List Outcome
rejoined_gives =
    got 5
    ∷ Did Done
    ∷ tries 21 4 2
    ∷ Did Done
    ∷ Did Done
    ∷ Did Done
    ∷ Did Done
    ∷ Did Ignored
    ∷ got 5
    ∷ Did Exhausted
    ∷ Did Ignored
    ∷ Did Done
    ∷ tries 39 4 2
    ∷ late 4
    ∷ []

-- ---- "The tried host answers with kind 23 in that call if it holds the cue": end 0 holds name 0,0, and not 0,1; a kind 22 that names another host;
-- and a Late cue is not held
abbrev pub asked : List Call
asked =
    sent
    ++ (call 0 20 (Arrival (about FTCH 1 19 0 0 []))
    ∷ call 0 21 (Arrival (about FTCH 1 19 1 0 []))
    ∷ call 0 22 (Arrival (about FTCH 1 19 0 3 []))
    ∷ [])

abbrev pub asked_gives : List Outcome
asked_gives = Did (Out message0) ∷ Did (Out (about LATE 0 20 0 1 (minus_two ∷ []))) ∷ Did Ignored ∷ Did Ignored ∷ []

abbrev pub late_asked : List Call
late_asked = tried ++ (call 1 22 (brings 2 4 1) ∷ call 1 23 (Arrival (about FTCH 2 9 4 1 [])) ∷ call 1 24 (Arrival (about FTCH 2 9 5 1 [])) ∷ [])

abbrev pub late_asked_gives : List Outcome
late_asked_gives = got 5 ∷ Did Done ∷ tries 21 4 2 ∷ late 4 ∷ Did Ignored ∷ Did (Out (about LATE 1 24 5 2 (minus_two ∷ []))) ∷ []

-- ---- a controller that joins late: ends 0 and 1 have the numbers 0 to 2, end 2 joins before number 2. Both report, and are as far away: end 2
-- tries end 0 for number 1, whose answer comes, and for number 0, whose answer is lost; then end 1
abbrev pub reported : ℕ → ℕ → List Report → List Echo → List ℕ
reported h clock reports echoes =
    bytes_of (record { kind = SESS; sender = as_host h; stamp = clock; names = []; cues = []; reports = reports; echoes = echoes })

abbrev pub originals : ℕ → ℕ → List ℕ
originals clock n = about DATA 0 clock n 0 (minus_two ∷ [])

abbrev pub late_joiner : List Call
late_joiner =
    call 0 0 (Moves Join)
    ∷ call 0 0 (Moves Joined)
    ∷ call 1 0 (Moves Join)
    ∷ call 1 0 (Moves Joined)
    ∷ call 0 10 (Send minus_two)
    ∷ call 1 12 (Arrival (originals 10 0))
    ∷ call 0 20 (Send minus_two)
    ∷ call 1 22 (Arrival (originals 20 1))
    ∷ call 2 23 (Moves Join)
    ∷ call 2 24 (Moves Joined)
    ∷ call 0 30 (Send minus_two)
    ∷ call 1 32 (Arrival (originals 30 2))
    ∷ call 2 33 (Arrival (originals 30 2))
    ∷ call 0 40 (Else Reporting)
    ∷ call 1 41 (Else Reporting)
    ∷ call 2 42 (Arrival (reported 0 40 (has_source 2) []))
    ∷ call 2 43 (Arrival (reported 1 41 (has_source 2) []))
    ∷ call 2 50 (Else (Fetch (name_of 1)))
    ∷ call 0 51 (Arrival (about FTCH 2 50 1 0 []))
    ∷ call 2 52 (Arrival (about LATE 0 51 1 2 (minus_two ∷ [])))
    ∷ call 2 60 (Else (Fetch (name_of 0)))
    ∷ call 0 61 (Arrival (about FTCH 2 60 0 0 []))
    ∷ call 2 70 (Else (Fetch (name_of 0)))
    ∷ call 1 71 (Arrival (about FTCH 2 70 0 1 []))
    ∷ call 2 72 (Arrival (about LATE 1 71 0 2 (minus_two ∷ [])))
    ∷ []

abbrev pub late_joiner_gives : List Outcome
late_joiner_gives =
    Did Done
    ∷ Did Done
    ∷ Did Done
    ∷ Did Done
    ∷ Did (Out (originals 10 0))
    ∷ got 0
    ∷ Did (Out (originals 20 1))
    ∷ got 1
    ∷ Did Done
    ∷ Did Done
    ∷ Did (Out (originals 30 2))
    ∷ got 2
    ∷ got 2
    ∷ Did (Out (reported 0 40 (has_source 2) []))
    ∷ Did (Out (reported 1 41 (has_source 2) []))
    ∷ Did Done
    ∷ Did Done
    ∷ Did (Out (about FTCH 2 50 1 0 []))
    ∷ Did (Out (about LATE 0 51 1 2 (minus_two ∷ [])))
    ∷ late 1
    ∷ Did (Out (about FTCH 2 60 0 0 []))
    ∷ Did (Out (about LATE 0 61 0 2 (minus_two ∷ [])))
    ∷ Did (Out (about FTCH 2 70 0 1 []))
    ∷ Did (Out (about LATE 1 71 0 2 (minus_two ∷ [])))
    ∷ late 0
    ∷ []

unfoldable pub fetch_rows : List Case
fetch_rows =
    gives house_params candidates candidates_give
    ∷ gives house_params reporters reporters_give
    ∷ gives house_params edges edges_give
    ∷ gives house_params handed handed_gives
    ∷ gives house_params rejoined rejoined_gives
    ∷ gives house_params asked asked_gives
    ∷ gives house_params late_asked late_asked_gives
    -- "first doesn't move"
    ∷ case (source_at (end_by 1 (tried ++ (call 1 22 (brings 2 4 1) ∷ []))) (as_host 0)).span (Open (as_number 5) (as_number 5))
    -- "for a last reason "no fetch"": of Fetch, of kind 22 and of kind 23; none where they are answered; and the reasons before it
    ∷ case (why_of (end_by 1 tried) 30 (Else (Fetch (name_of 5)))) (Because NoFetch)
    ∷ case (why_of (end_by 1 tried) 30 (Else (Fetch (name_of 4)))) NoReason
    ∷ case (why_of (end_by 1 tried) 30 (brings 3 4 1)) (Because NoFetch)
    ∷ case (why_of (end_by 1 tried) 30 (brings 2 4 1)) NoReason
    ∷ case (why_of (end_by 0 sent) 30 (Arrival (about FTCH 1 19 1 0 []))) (Because NoFetch)
    ∷ case (why_of (end_by 0 sent) 30 (Arrival (about FTCH 1 19 0 0 []))) NoReason
    ∷ case (why_of (end_by 1 tried) 30 (brings 1 4 2)) (Because OwnMessage)
    ∷ case (why_of idle0 30 (Else (Fetch (name_of 4)))) (Because WrongStatus)
    ∷ case (why_of crashed1 30 (Else (Fetch (name_of 4)))) (Because Crashed)
    ∷ []
