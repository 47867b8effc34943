-- Same name, other cue (document 02, P4): DATA and REPL whose cue has its last free byte changed, on another's name and on an own one, and
-- beside them the same messages with equal bytes.
use Rattle.std.specs.Prelude.{ℕ, Bool, true, false, List, [], ◌∷◌, ◌++◌, map, replicate, set}
use Rattle.message.specs.Message.{DATA, REPL}
use Rattle.end.specs.declared.Answer.TheVariants as answer
use Rattle.end.specs.declared.End.{End}
use Rattle.end.specs.State.{with_clock}
use Rattle.end.specs.Answer.{Out, Done, Ignored, Nothing, Clash, Outcome, Refused, Did}
use Rattle.end.specs.Decide.{same_cue}
use Rattle.end.specs.Event.{Action, Send, Arrival}
use Rattle.end.specs.Opening.{house_params}
use Rattle.end.specs.Run.{World, Call, result_of, world_after}
use Rattle.cases.specs.Case.{Case, case}
use Rattle.cases.specs.Listing.{call, minus_two, got, name_at, name_of, about, message0}
use Rattle.cases.specs.Wire.{full_cue}
use Rattle.cases.specs.Timed.{members, asks, fires, repair_out, gives}
use Rattle.cases.specs.Stage.{stage_params, stage_call, stage_data, plain, handed, given_by}

-- the cue with its last free byte 1 instead of 0
abbrev pub other_cue : List ℕ
other_cue = set minus_two 23 1

-- DATA of name 0,0, and REPL of it from host h for host 2, with this cue
abbrev pub original : List ℕ → Action
original cue = Arrival (about DATA 0 10 0 0 (cue ∷ []))

abbrev pub repair : ℕ → List ℕ → Action
repair h cue = Arrival (about REPL h 99 0 2 (cue ∷ []))

-- "Clash, with the name"
abbrev pub clashes : Outcome
clashes = Did (Clash (name_of 0))

-- ---- another's name: end 1 holds name 0,0

-- a reply waits, due at 50 + 4×40. It stays, and goes out with the cue that is held, though a DATA and a REPL with other bytes come
abbrev pub reply_waits : List ℕ → List Call
reply_waits cue = call 1 12 (Arrival message0) ∷ call 1 50 (asks 2 49 0) ∷ call 1 100 (original cue) ∷ call 1 100 (repair 0 cue) ∷ fires 1 210

abbrev pub reply_stays : List Outcome
reply_stays = Did Nothing ∷ Did (Out (about REPL 1 210 0 2 (minus_two ∷ []))) ∷ []

-- no reply waits: no reply-quiet time is set, so at the same clock a reply is
abbrev pub none_waits : List ℕ → List Call
none_waits cue = call 1 12 (Arrival message0) ∷ call 1 100 (repair 0 cue) ∷ call 1 100 (asks 3 0 0) ∷ []

-- a REPL of its own that comes back, and one below first: end 1 has had number 1 first
abbrev pub looped : List Call
looped = call 1 12 (Arrival message0) ∷ call 1 100 (repair 1 other_cue) ∷ []

abbrev pub below_first : List Call
below_first = call 1 12 (Arrival (about DATA 0 10 1 0 (minus_two ∷ []))) ∷ call 1 100 (original other_cue) ∷ call 1 100 (repair 0 other_cue) ∷ []

-- ---- an own name: end 0 sent name 0,0 and has a reply for end 1 waiting, due at 100 + 4×40
abbrev pub own_name : Action → List Call
own_name heard = call 0 10 (Send minus_two) ∷ call 0 100 (asks 1 99 0) ∷ call 0 150 heard ∷ fires 0 260

abbrev pub sent_asked : List Outcome
sent_asked = Did (Out message0) ∷ Did Done ∷ []

-- ---- the end that a clash leaves: the very same, but for its clock

-- end 1 of these ends, after a call, against what it was before
abbrev pub left_by : World → Call → End
left_by w c = (result_of w c).left

abbrev pub asked : World
asked =
    let w = members house_params in
    let heard = world_after w 1 (result_of w (call 1 12 (Arrival message0))) in
    world_after heard 1 (result_of heard (call 1 50 (asks 2 49 0)))

-- ---- every one of the 24 bytes counts
abbrev pub byte_changed : ℕ → Bool
byte_changed i = same_cue (set full_cue i 77) full_cue

abbrev pub places : List ℕ
places = 0 ∷ 1 ∷ 2 ∷ 3 ∷ 4 ∷ 5 ∷ 6 ∷ 7 ∷ 8 ∷ 9 ∷ 10 ∷ 11 ∷ 12 ∷ 13 ∷ 14 ∷ 15 ∷ 16 ∷ 17 ∷ 18 ∷ 19 ∷ 20 ∷ 21 ∷ 22 ∷ 23 ∷ []

unfoldable pub clash_rows : List Case
clash_rows =
    gives house_params (reply_waits other_cue) (got 0 ∷ Did Done ∷ clashes ∷ clashes ∷ reply_stays)
    ∷ gives house_params (reply_waits minus_two) (got 0 ∷ Did Done ∷ Did Ignored ∷ Did Done ∷ Did Nothing ∷ Did Nothing ∷ [])
    ∷ gives house_params (none_waits other_cue) (got 0 ∷ clashes ∷ Did Done ∷ [])
    ∷ gives house_params (none_waits minus_two) (got 0 ∷ Did Done ∷ Did Ignored ∷ [])
    -- "from another end": a looped message is Ignored, and so is one below first
    ∷ gives house_params looped (got 0 ∷ Did Ignored ∷ [])
    ∷ gives house_params below_first (got 1 ∷ Did Ignored ∷ Did Ignored ∷ [])
    -- an own name: by a REPL of another; a DATA of it from another is no message (11), and its own is looped
    ∷ gives house_params (own_name (repair 1 other_cue)) (sent_asked ++ clashes ∷ repair_out 260 0)
    ∷ gives house_params (own_name (repair 1 minus_two)) (sent_asked ++ Did Done ∷ Did Nothing ∷ Did Nothing ∷ [])
    ∷ gives house_params (own_name (Arrival (about DATA 1 99 0 1 (other_cue ∷ [])))) (sent_asked ++ Refused 11 ∷ repair_out 260 0)
    ∷ gives house_params (own_name (original other_cue)) (sent_asked ++ Did Ignored ∷ repair_out 260 0)
    -- "apart from the clock nothing changes": the end, and the output
    ∷ case (left_by asked (call 1 100 (original other_cue))) (with_clock (asked.ends 1) 100)
    ∷ case (left_by asked (call 1 100 (repair 0 other_cue))) (with_clock (asked.ends 1) 100)
    ∷ case (given_by (members stage_params)
    (stage_call 3 105 (Arrival (stage_data 100 0 full_cue)) ∷ stage_call 3 106 (Arrival (stage_data 100 0 (set full_cue 23 15))) ∷ []))
    (handed 0 full_cue ∷ plain (answer.Clash (name_at 7 0)) ∷ [])
    -- the bytes
    ∷ case (map byte_changed places) (replicate 24 false)
    ∷ case (same_cue full_cue full_cue) true
    ∷ []
