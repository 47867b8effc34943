-- Express repair, document 02, P8: the pair that an end keeps, the express wait, what goes out first, and what the named sender does with an
-- XPRS; and a list in which a lost cue is repaired in one exchange.
use Rattle.std.specs.Prelude.{ℕ, List, [], ◌∷◌, ◌++◌, set}
use Rattle.message.specs.Entry.{as_host, as_number}
use Rattle.message.specs.Message.{DATA, RQST, REPL, XPRS}
use Rattle.message.specs.declared.Verdict.TheVariants.{Accepted}
use Rattle.end.specs.declared.Answer.TheVariants as answer
use Rattle.end.specs.Parts.{Pair, NoPair, Kept}
use Rattle.end.specs.declared.Params.{Params}
use Rattle.end.specs.declared.Status.TheVariants.{Idle}
use Rattle.end.specs.declared.Move.TheVariants.{Join, Joined, Leave, Crash}
use Rattle.end.specs.declared.Reason.TheVariants.{ReplyWaiting}
use Rattle.end.specs.declared.Why.TheVariants.{Because, NoReason}
use Rattle.end.specs.State.{source_at, fresh_end}
use Rattle.end.specs.Answer.{Out, Done, Ignored, Nothing, Outcome, Did}
use Rattle.end.specs.Event.{Action, Moves, Send, Arrival, Else, Fire}
use Rattle.end.specs.Why.{why_of}
use Rattle.end.specs.Opening.{open_refusal, opening_of}
use Rattle.end.specs.Run.{World, Call}
use Rattle.cases.specs.Case.{Case, case}
use Rattle.cases.specs.Listing.{call, minus_two, name_at, about_name, about, got, message0}
use Rattle.cases.specs.Timed.{members, asks, repairs, fires, asked, quiet_to, repair_out, gives}
use Rattle.cases.specs.Stage.{stage_call, stage_data, Given, plain, put_out, handed, given_by}
use Rattle.cases.specs.Reasons.{world_by}
use Rattle.cases.specs.Wire.{five_cue, full_cue}

-- the house's parameters with another E
abbrev pub waiting : ℕ → Params
waiting e = record { c1 = 9; c2 = 8; c3 = 4; d1 = 4; d2 = 4; d3 = 8; express = e }

-- what an end hears: DATA of name 0,n, and XPRS of it from host h, which names another as host
abbrev pub original : ℕ → ℕ → Action
original clock n = Arrival (about DATA 0 clock n 0 (minus_two ∷ []))

abbrev pub expresses : ℕ → ℕ → ℕ → ℕ → Action
expresses h clock n host = Arrival (about XPRS h clock n host [])

-- ---- "Per source an end keeps, until Leave or Crash, the requester and sender of the latest REPL answered Got or Done that named a number at
-- least as high as the kept one's."

-- end 1 misses names 0,1 to 0,3
abbrev pub gap : List Call
gap = call 1 12 (Arrival message0) ∷ call 1 32 (original 30 4) ∷ []

-- what it keeps of source 0 after these calls; and a pair
abbrev pub pair_by : List Call → Pair
pair_by calls = (source_at ((world_by (members (waiting 100)) (gap ++ calls)).ends 1) (as_host 0)).pair

abbrev pub kept : ℕ → ℕ → ℕ → Pair
kept requester sender n = Kept (as_host requester) (as_host sender) (as_number n)

-- a repair of name 0,2 by host 0 for host 2, which is Got; then one of the same name, which is Done, of a higher and of a lower one
abbrev pub second : List Call
second = call 1 100 (repairs 0 99 2 2) ∷ []

abbrev pub again : List Call
again = second ++ (call 1 101 (repairs 3 99 2 5) ∷ [])

abbrev pub higher : List Call
higher = again ++ (call 1 102 (repairs 4 99 3 6) ∷ [])

abbrev pub lower : List Call
lower = higher ++ (call 1 103 (repairs 5 99 1 7) ∷ [])

-- one with other bytes, which is a Clash, and one of its own that comes back, which is Ignored
abbrev pub other_bytes : Action
other_bytes = Arrival (about REPL 5 99 3 7 (set minus_two 23 1 ∷ []))

-- ---- "A member that sets round 1 by a gap before a DATA, not a REPL, and is that requester also sets an express wait, due E ticks on."

-- end 1 has had name 0,0, and a repair of it by host 3 at clock 100, for this requester; then it misses name 0,1 by what it hears at clock 200
abbrev pub after : ℕ → Action → List Call
after requester hears = call 1 12 (Arrival message0) ∷ call 1 100 (repairs 3 99 0 requester) ∷ call 1 200 hears ∷ []

-- "Fired, it is dropped and goes out as kind 21 .., with the sender then kept as host"
abbrev pub express_out : ℕ → ℕ → ℕ → List Outcome
express_out due n host = Did Nothing ∷ Did (Out (about XPRS 1 due n host [])) ∷ []

-- another repair is heard before it fires
abbrev pub pair_changed : List Call
pair_changed = after 1 (original 199 2) ++ (call 1 250 (repairs 4 99 2 5) ∷ fires 1 300)

-- the request stays, due 9×40 after clock 200; and the express wait goes with it, once the cue comes
abbrev pub request_out : List Outcome
request_out = Did Nothing ∷ Did (Out (about RQST 1 560 1 1 [])) ∷ []

abbrev pub cue_comes : List Call
cue_comes = after 1 (original 199 2) ++ (call 1 250 (original 199 1) ∷ call 1 300 (Else Fire) ∷ [])

-- ---- "Express waits come before requests in ties."

-- at clock 1000 are due: the request for name 0,1 since 640, the reply for name 0,2 since 840, and the express wait for name 0,3 since 900
abbrev pub tie : List Call
tie =
    call 1 12 (Arrival message0)
    ∷ call 1 640 (original 639 2)
    ∷ call 1 700 (repairs 3 699 0 1)
    ∷ call 1 840 (asks 2 839 2)
    ∷ call 1 900 (original 899 4)
    ∷ call 1 999 (Else Fire)
    ∷ call 1 1000 (Else Fire)
    ∷ call 1 1000 (Else Fire)
    ∷ call 1 1000 (Else Fire)
    ∷ call 1 1000 (Else Fire)
    ∷ []

abbrev pub tie_gives : List Outcome
tie_gives =
    got 0
    ∷ got 2
    ∷ Did Done
    ∷ Did Done
    ∷ got 4
    ∷ Did Nothing
    ∷ Did (Out (about XPRS 1 1000 3 3 []))
    ∷ Did (Out (about RQST 1 1000 1 1 []))
    ∷ Did (Out (about REPL 1 1000 2 2 (minus_two ∷ [])))
    ∷ Did Nothing
    ∷ []

-- ---- "The named sender, if it holds the cue and clock ≥ reply-quiet, drops its waiting reply, sets reply-quiet as Fire does and answers Out REPL
-- in that call, with kind 21's sender as requester."

-- end 0 has sent name 0,0
abbrev pub sent : List Call
sent = call 0 10 (Send minus_two) ∷ []

abbrev pub repair_now : ℕ → ℕ → Outcome
repair_now clock requester = Did (Out (about REPL 0 clock 0 requester (minus_two ∷ [])))

-- it has a reply for end 1 waiting, due at 260; an XPRS of end 2 names it at clock 150; then no reply is due, and reply-quiet is 150 + 8×40
abbrev pub reply_waits : List Call
reply_waits = sent ++ (call 0 100 (asks 1 99 0) ∷ call 0 150 (expresses 2 149 0 0) ∷ call 0 260 (Else Fire) ∷ asked 0 470 0)

-- it has sent a repair at 260, so reply-quiet is 580: one tick before, and at it
abbrev pub within_quiet : List Call
within_quiet = sent ++ (call 0 100 (asks 1 99 0) ∷ fires 0 260 ++ (call 0 579 (expresses 2 149 0 0) ∷ call 0 580 (expresses 2 149 0 0) ∷ []))

-- "Otherwise it, like every other end, treats kind 21 as RQST from its sender.": a holder that is not named, one that is named and lacks the cue,
-- and one that lacks it and learns of it: round 2 at clock 100 is due at 820
abbrev pub not_named : List Call
not_named = sent ++ (call 0 100 (expresses 1 99 0 3) ∷ fires 0 260)

abbrev pub lacking : List Call
lacking = call 1 12 (Arrival message0) ∷ call 1 100 (expresses 2 99 1 1) ∷ fires 1 820

-- ---- a lost cue is repaired in one exchange: hosts 7 and 3 as on the stage, and E 30

abbrev pub express_params : Params
express_params = record { c1 = 12; c2 = 5; c3 = 3; d1 = 2; d2 = 6; d3 = 7; express = 30 }

abbrev pub express_stage : World
express_stage = record { ends = λ h. fresh_end (as_host h) express_params Idle; sent = [] }

abbrev pub stage_repair : ℕ → ℕ → List ℕ → List ℕ
stage_repair clock n cue = about_name (name_at 7 n) REPL 7 clock 3 (cue ∷ [])

abbrev pub stage_request : List ℕ
stage_request = about_name (name_at 7 1) RQST 3 612 3 []

abbrev pub stage_express : List ℕ
stage_express = about_name (name_at 7 3) XPRS 3 830 7 []

-- end 3 misses number 1, asks for it after 480 ticks and is answered after 80 more; then it misses number 3, and has it 20 ticks after it asks,
-- 50 after it has heard of it. Its request is gone
abbrev pub exchange : List Call
exchange =
    stage_call 7 0 (Moves Join)
    ∷ stage_call 7 0 (Moves Joined)
    ∷ stage_call 3 0 (Moves Join)
    ∷ stage_call 3 0 (Moves Joined)
    ∷ stage_call 7 100 (Send full_cue)
    ∷ stage_call 3 105 (Arrival (stage_data 100 0 full_cue))
    ∷ stage_call 7 110 (Send five_cue)
    ∷ stage_call 7 120 (Send minus_two)
    ∷ stage_call 3 132 (Arrival (stage_data 120 2 minus_two))
    ∷ stage_call 3 612 (Else Fire)
    ∷ stage_call 7 620 (Arrival stage_request)
    ∷ stage_call 7 700 (Else Fire)
    ∷ stage_call 3 710 (Arrival (stage_repair 700 1 five_cue))
    ∷ stage_call 7 780 (Send full_cue)
    ∷ stage_call 7 790 (Send five_cue)
    ∷ stage_call 3 800 (Arrival (stage_data 790 4 five_cue))
    ∷ stage_call 3 829 (Else Fire)
    ∷ stage_call 3 830 (Else Fire)
    ∷ stage_call 7 840 (Arrival stage_express)
    ∷ stage_call 3 850 (Arrival (stage_repair 840 3 full_cue))
    ∷ stage_call 3 1280 (Else Fire)
    ∷ []

abbrev pub exchange_gives : List Given
exchange_gives =
    plain answer.Done
    ∷ plain answer.Done
    ∷ plain answer.Done
    ∷ plain answer.Done
    ∷ put_out (stage_data 100 0 full_cue)
    ∷ handed 0 full_cue
    ∷ put_out (stage_data 110 1 five_cue)
    ∷ put_out (stage_data 120 2 minus_two)
    ∷ handed 2 minus_two
    ∷ put_out stage_request
    ∷ plain answer.Done
    ∷ put_out (stage_repair 700 1 five_cue)
    ∷ handed 1 five_cue
    ∷ put_out (stage_data 780 3 full_cue)
    ∷ put_out (stage_data 790 4 five_cue)
    ∷ handed 4 five_cue
    ∷ plain answer.Nothing
    ∷ put_out stage_express
    ∷ put_out (stage_repair 840 3 full_cue)
    ∷ handed 3 full_cue
    ∷ plain answer.Nothing
    ∷ []

unfoldable pub express_rows : List Case
express_rows =
    -- "Opening with E above 1000 is refused as 14, checked after 13"
    case (opening_of (as_host 0) (waiting 1000)) (record { verdict = Accepted; end = fresh_end (as_host 0) (waiting 1000) Idle })
    ∷ case (open_refusal (as_host 0) (waiting 1001)) 14
    ∷ case (open_refusal (as_host 0) (record { c1 = 8; c2 = 8; c3 = 4; d1 = 4; d2 = 4; d3 = 7; express = 1001 })) 13
    ∷ case (open_refusal (as_host 8) (waiting 1001)) 12
    -- the pair: none, kept, and replaced by an equal and a higher number, not by a lower one
    ∷ case (pair_by []) NoPair
    ∷ case (pair_by second) (kept 2 0 2)
    ∷ case (pair_by again) (kept 5 3 2)
    ∷ case (pair_by higher) (kept 6 4 3)
    ∷ case (pair_by lower) (kept 6 4 3)
    -- not by a Clash, nor by an Ignored REPL
    ∷ case (pair_by (higher ++ (call 1 103 other_bytes ∷ []))) (kept 6 4 3)
    ∷ case (pair_by (higher ++ (call 1 103 (repairs 1 99 3 7) ∷ []))) (kept 6 4 3)
    -- "until Leave or Crash"
    ∷ case (pair_by (lower ++ (call 1 104 (Moves Leave) ∷ []))) NoPair
    ∷ case (pair_by (lower ++ (call 1 104 (Moves Crash) ∷ []))) NoPair
    -- the express wait, of the kept requester and of another
    ∷ gives (waiting 100) (after 1 (original 199 2) ++ fires 1 300) (got 0 ∷ Did Done ∷ got 2 ∷ express_out 300 1 3)
    ∷ gives (waiting 100) (after 2 (original 199 2) ++ fires 1 300) (got 0 ∷ Did Done ∷ got 2 ∷ Did Nothing ∷ Did Nothing ∷ [])
    ∷ gives (waiting 0) (after 1 (original 199 2) ++ (call 1 200 (Else Fire) ∷ [])) (got 0 ∷ Did Done ∷ got 2 ∷ Did (Out (about XPRS 1 200 1 3 [])) ∷ [])
    -- "not a REPL", nor a RQST
    ∷ gives (waiting 100) (after 1 (repairs 3 199 2 5) ++ fires 1 300) (got 0 ∷ Did Done ∷ got 2 ∷ Did Nothing ∷ Did Nothing ∷ [])
    ∷ gives (waiting 100) (after 1 (asks 4 199 2) ++ fires 1 300) (got 0 ∷ Did Done ∷ Did Done ∷ Did Nothing ∷ Did Nothing ∷ [])
    -- "the sender then kept"; the request stays; both go with the cue
    ∷ gives (waiting 100) pair_changed (got 0 ∷ Did Done ∷ got 2 ∷ Did Done ∷ express_out 300 1 4)
    ∷ gives (waiting 100) (after 1 (original 199 2) ++ (fires 1 300 ++ fires 1 560)) (got 0 ∷ Did Done ∷ got 2 ∷ express_out 300 1 3 ++ request_out)
    ∷ gives (waiting 100) cue_comes (got 0 ∷ Did Done ∷ got 2 ∷ got 1 ∷ Did Nothing ∷ [])
    -- three waits due at one time
    ∷ gives (waiting 100) tie tie_gives
    -- an XPRS that arrives: with a waiting reply, within reply-quiet, not named, lacking
    ∷ gives (waiting 100) reply_waits (Did (Out message0) ∷ Did Done ∷ repair_now 150 2 ∷ Did Nothing ∷ quiet_to)
    ∷ gives (waiting 100) within_quiet (Did (Out message0) ∷ Did Done ∷ repair_out 260 0 ++ (Did Ignored ∷ repair_now 580 2 ∷ []))
    ∷ gives (waiting 100) not_named (Did (Out message0) ∷ Did Done ∷ repair_out 260 0)
    ∷ gives (waiting 100) lacking (got 0 ∷ Did Done ∷ Did Nothing ∷ Did (Out (about RQST 1 820 1 1 [])) ∷ [])
    -- the reason call: none where it is answered at once, and RQST's reasons otherwise
    ∷ case (why_of ((world_by (members (waiting 100)) (sent ++ (call 0 100 (asks 1 99 0) ∷ []))).ends 0) 101 (expresses 2 100 0 0)) NoReason
    ∷ case (why_of ((world_by (members (waiting 100)) (sent ++ (call 0 100 (asks 1 99 0) ∷ []))).ends 0) 101 (expresses 2 100 0 5)) (Because ReplyWaiting)
    -- the exchange
    ∷ case (given_by express_stage exchange) exchange_gives
    ∷ []
