-- A state and an event for each of document 02's ten reasons (P3), for none, and for the numbers 3 to 11. The ends are members, of which
-- nothing is kept, after some calls.
use Rattle.std.specs.Prelude.{ℕ, List, [], ◌∷◌, set, replicate, pos, negsuc}
use Rattle.message.specs.Limit.{ticks_limit}
use Rattle.message.specs.Entry.{as_host}
use Rattle.message.specs.Message.{DATA, RQST, REPL, SESS}
use Rattle.end.specs.declared.Move.TheVariants.{Join, Crash}
use Rattle.end.specs.declared.Reason.TheVariants.{Crashed, WrongStatus, OwnMessage, NotOpen, BelowFirst, OwnAboveLast, AlreadyHeld, ReplyWaiting, ReplyQuiet, RequestQuiet}
use Rattle.end.specs.declared.Why.TheVariants.{Refused, Because, NoReason}
use Rattle.end.specs.declared.Status.TheVariants.{Idle}
use Rattle.end.specs.declared.End.{End}
use Rattle.end.specs.State.{fresh_end, with_next, on_source}
use Rattle.end.specs.Records.{record_at, with_record}
use Rattle.end.specs.Event.{Moves, Send, Arrival, Else, Fire, Report}
use Rattle.end.specs.Opening.{house_params}
use Rattle.end.specs.Run.{World, Call, result_of, world_after}
use Rattle.end.specs.Why.{why_of}
use Rattle.cases.specs.Case.{Case, case}
use Rattle.cases.specs.Listing.{call, minus_two, about, message0, message2}
use Rattle.cases.specs.Rows.{cue_of_focus, member_at}
use Rattle.cases.specs.Timed.{members, asks, repairs}

-- the end of a host after calls
abbrev pub world_by : World → List Call → World
world_by w [] = w
world_by w (c ∷ cs) = world_by (world_after w c.host (result_of w c)) cs

abbrev pub end_by : ℕ → List Call → End
end_by h calls = (world_by (members house_params) calls).ends h

-- end 0 has sent cue 0; end 1 has cue 0 of source 0, or cue 2, or both and misses cue 1 since clock 32
abbrev pub sent : List Call
sent = call 0 10 (Send minus_two) ∷ []

abbrev pub heard0 : List Call
heard0 = call 1 12 (Arrival message0) ∷ []

abbrev pub heard2 : List Call
heard2 = call 1 12 (Arrival message2) ∷ []

abbrev pub missing : List Call
missing = call 1 12 (Arrival message0) ∷ call 1 32 (Arrival message2) ∷ []

-- end 0 was asked for its cue; end 1 heard another's repair of cue 0 for host 3
abbrev pub asked_for : List Call
asked_for = call 0 10 (Send minus_two) ∷ call 0 100 (asks 1 99 0) ∷ []

abbrev pub repaired : List Call
repaired = call 1 12 (Arrival message0) ∷ call 1 100 (repairs 2 99 0 3) ∷ []

-- an idle end, a crashed one, and one whose reply-quiet time of cue 0 is another
abbrev pub idle0 : End
idle0 = fresh_end (as_host 0) house_params Idle

abbrev pub crashed1 : End
crashed1 = end_by 1 (call 1 5 (Moves Crash) ∷ [])

abbrev pub hushed : End → ℕ → End
hushed e t = on_source e (as_host 0) (λ s. with_record s 0 (record { slot = (record_at s 0).slot; cue = (record_at s 0).cue; hush = t }))

-- the cue with its last free byte changed
abbrev pub other_cue : List ℕ
other_cue = set minus_two 23 1

unfoldable pub reason_rows : List Case
reason_rows =
    -- "crashed", before the wrong status that a crashed end has too
    case (why_of crashed1 10 (Else Fire)) (Because Crashed)
    -- "wrong status"
    ∷ case (why_of (end_by 1 []) 10 (Moves Join)) (Because WrongStatus)
    -- "own message"
    ∷ case (why_of (end_by 0 sent) 20 (Arrival message0)) (Because OwnMessage)
    -- "source not open (RQST, REPL)"; a DATA opens it
    ∷ case (why_of (end_by 1 []) 20 (asks 2 9 0)) (Because NotOpen)
    ∷ case (why_of (end_by 1 []) 20 (repairs 2 9 0 3)) (Because NotOpen)
    ∷ case (why_of (end_by 1 []) 20 (Arrival message0)) NoReason
    -- "below first (DATA, RQST, REPL)"
    ∷ case (why_of (end_by 1 heard2) 20 (Arrival message0)) (Because BelowFirst)
    ∷ case (why_of (end_by 1 heard2) 20 (asks 2 9 0)) (Because BelowFirst)
    ∷ case (why_of (end_by 1 heard2) 20 (repairs 2 9 0 3)) (Because BelowFirst)
    -- "own number above last (RQST, REPL)"; of another's number above last a RQST is heard
    ∷ case (why_of (end_by 0 sent) 20 (asks 1 9 1)) (Because OwnAboveLast)
    ∷ case (why_of (end_by 0 sent) 20 (repairs 2 9 1 3)) (Because OwnAboveLast)
    ∷ case (why_of (end_by 1 heard0) 20 (asks 2 9 1)) NoReason
    -- "already held (DATA)"
    ∷ case (why_of (end_by 1 heard0) 20 (Arrival message0)) (Because AlreadyHeld)
    -- "reply waiting, then reply-quiet (RQST of a held cue)": up to clock 100 + 8 × 40, and not at it
    ∷ case (why_of (end_by 0 asked_for) 101 (asks 3 9 0)) (Because ReplyWaiting)
    ∷ case (why_of (end_by 1 repaired) 419 (asks 3 9 0)) (Because ReplyQuiet)
    ∷ case (why_of (end_by 1 repaired) 420 (asks 3 9 0)) NoReason
    -- "request quiet (RQST of a cue not held, up to last)": at quiet-until, 32 + 4 × 40, still
    ∷ case (why_of (end_by 1 missing) 192 (asks 2 9 1)) (Because RequestQuiet)
    ∷ case (why_of (end_by 1 missing) 193 (asks 2 9 1)) NoReason
    -- "none": neither refused nor Ignored
    ∷ case (why_of (end_by 0 []) 20 (Send minus_two)) NoReason
    ∷ case (why_of (end_by 0 []) 20 (Else Report)) NoReason
    -- "An event that would be refused as 3 to 11 yields that number."
    ∷ case (why_of (member_at 65537) 20 (Else Fire)) (Refused 3)
    ∷ case (why_of (end_by 0 []) ticks_limit (Else Fire)) (Refused 4)
    ∷ case (why_of (end_by 0 sent) 9 (Else Fire)) (Refused 5)
    ∷ case (why_of (end_by 0 []) 20 (Send (cue_of_focus (negsuc 2000)))) (Refused 6)
    ∷ case (why_of (member_at 65536) 20 (Send (cue_of_focus (pos 0)))) (Refused 7)
    ∷ case (why_of (end_by 0 []) 20 (Arrival (SESS ∷ []))) (Refused 8)
    ∷ case (why_of (end_by 0 []) 20 (Arrival (9 ∷ replicate 11 0))) (Refused 9)
    ∷ case (why_of (end_by 0 []) 20 (Arrival (SESS ∷ 8 ∷ replicate 10 0))) (Refused 10)
    ∷ case (why_of (end_by 0 []) 20 (Arrival (about RQST 1 9 0 2 []))) (Refused 11)
    -- a number comes before every reason; 7 is asked of a member alone
    ∷ case (why_of crashed1 4 (Else Fire)) (Refused 5)
    ∷ case (why_of idle0 20 (Arrival (SESS ∷ []))) (Refused 8)
    ∷ case (why_of idle0 20 (Send (cue_of_focus (negsuc 2000)))) (Refused 6)
    ∷ case (why_of (with_next idle0 64) 20 (Send minus_two)) (Because WrongStatus)
    -- where two reasons hold, the first is named: wrong status and own message; reply waiting and reply-quiet (a sound state that no run reaches)
    ∷ case (why_of idle0 20 (Arrival message0)) (Because WrongStatus)
    ∷ case (why_of (hushed (end_by 0 asked_for) 1000) 101 (asks 3 9 0)) (Because ReplyWaiting)
    -- a SESS of another and one's own, a REPL of a held cue
    ∷ case (why_of (end_by 0 []) 20 (Arrival (SESS ∷ 1 ∷ replicate 10 0))) NoReason
    ∷ case (why_of (end_by 0 []) 20 (Arrival (SESS ∷ 0 ∷ replicate 10 0))) (Because OwnMessage)
    ∷ case (why_of (end_by 1 heard0) 20 (repairs 2 9 0 3)) NoReason
    -- P4: "The reason call gives "none" for it."
    ∷ case (why_of (end_by 1 heard0) 20 (Arrival (about DATA 0 10 0 0 (other_cue ∷ [])))) NoReason
    ∷ case (why_of (end_by 1 heard0) 20 (Arrival (about REPL 2 9 0 3 (other_cue ∷ [])))) NoReason
    -- P5: of a probe crashed, wrong status or none, also on host 0, and the questions 3 to 5
    ∷ case (why_of (end_by 0 []) 20 (Arrival [])) NoReason
    ∷ case (why_of idle0 20 (Arrival [])) (Because WrongStatus)
    ∷ case (why_of crashed1 20 (Arrival [])) (Because Crashed)
    ∷ case (why_of (end_by 0 sent) 9 (Arrival [])) (Refused 5)
    ∷ []
