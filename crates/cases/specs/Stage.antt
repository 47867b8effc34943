-- A list on hosts 7 and 3 with other parameters than the listing's: 12,5,3,2,6,7. Each cue is another one; outputs hold 170 before.
use Rattle.std.specs.Prelude.{ℕ, List, [], ◌∷◌, ◌++◌, map, length, drop, replicate}
use Rattle.message.specs.Entry.{as_host}
use Rattle.message.specs.Message.{DATA, RQST, REPL}
use Rattle.end.specs.declared.Answer.{Answer}
use Rattle.end.specs.declared.Answer.TheVariants as answer
use Rattle.end.specs.declared.Params.{Params}
use Rattle.end.specs.declared.Status.TheVariants.{Idle}
use Rattle.end.specs.State.{fresh_end}
use Rattle.end.specs.Event.{Action, Moves, Send, Arrival, Else, Fire}
use Rattle.end.specs.declared.Move.TheVariants.{Join, Joined}
use Rattle.end.specs.Run.{World, Call}
use Rattle.cases.specs.Case.{Case, case}
use Rattle.cases.specs.Listing.{minus_two, name_at, about_name}
use Rattle.cases.specs.Shown.{returned}
use Rattle.cases.specs.Timed.{members}
use Rattle.cases.specs.Wire.{five_cue, full_cue}

abbrev pub stage_params : Params
stage_params = record { c1 = 12; c2 = 5; c3 = 3; d1 = 2; d2 = 6; d3 = 7; express = 0 }

-- the ends, freshly opened
abbrev pub stage : World
stage = record { ends = λ h. fresh_end (as_host h) stage_params Idle; sent = [] }

abbrev pub lent : List ℕ
lent = replicate 128 170

abbrev pub stage_call : ℕ → ℕ → Action → Call
stage_call h clock ev = record { host = h; action = ev; clock = clock; output = lent; draws = replicate 64 0 }

-- the messages as they are put out
abbrev pub stage_data : ℕ → ℕ → List ℕ → List ℕ
stage_data clock n cue = about_name (name_at 7 n) DATA 7 clock 7 (cue ∷ [])

abbrev pub stage_request : List ℕ
stage_request = about_name (name_at 7 1) RQST 3 612 3 []

abbrev pub stage_repair : List ℕ
stage_repair = about_name (name_at 7 1) REPL 7 700 3 (five_cue ∷ [])

-- end 3 misses number 1 of end 7, asks for it 12×40 ticks after it heard of it, and is answered 2×40 ticks after it asked
abbrev pub play : List Call
play =
    stage_call 7 0 (Moves Join)
    ∷ stage_call 7 0 (Moves Joined)
    ∷ stage_call 3 0 (Moves Join)
    ∷ stage_call 3 0 (Moves Joined)
    ∷ stage_call 7 100 (Send full_cue)
    ∷ stage_call 3 105 (Arrival (stage_data 100 0 full_cue))
    ∷ stage_call 7 110 (Send five_cue)
    ∷ stage_call 7 120 (Send minus_two)
    ∷ stage_call 3 132 (Arrival (stage_data 120 2 minus_two))
    ∷ stage_call 3 611 (Else Fire)
    ∷ stage_call 3 612 (Else Fire)
    ∷ stage_call 7 620 (Arrival stage_request)
    ∷ stage_call 7 699 (Else Fire)
    ∷ stage_call 7 700 (Else Fire)
    ∷ stage_call 3 710 (Arrival stage_repair)
    ∷ stage_call 3 711 (Arrival stage_repair)
    ∷ []

-- an answer, and the output that it leaves: "Other output bytes are untouched."
abbrev pub Given : Type 0
Given = Answer × List ℕ

abbrev pub plain : Answer → Given
plain a = (a, lent)

abbrev pub put_out : List ℕ → Given
put_out bytes = (answer.Out (length bytes), bytes ++ drop (length bytes) lent)

-- "Got (name, and its cue in the first 24)"
abbrev pub handed : ℕ → List ℕ → Given
handed n cue = (answer.Got (name_at 7 n), cue ++ replicate 104 170)

abbrev pub given_by : World → List Call → List Given
given_by w cs = map (λ r. (r.answer, r.output)) (returned w cs)

-- what the list gives
abbrev pub play_gives : List Given
play_gives =
    plain answer.Done
    ∷ plain answer.Done
    ∷ plain answer.Done
    ∷ plain answer.Done
    ∷ put_out (stage_data 100 0 full_cue)
    ∷ handed 0 full_cue
    ∷ put_out (stage_data 110 1 five_cue)
    ∷ put_out (stage_data 120 2 minus_two)
    ∷ handed 2 minus_two
    ∷ plain answer.Nothing
    ∷ put_out stage_request
    ∷ plain answer.Done
    ∷ plain answer.Nothing
    ∷ put_out stage_repair
    ∷ handed 1 five_cue
    ∷ plain answer.Done
    ∷ []

-- the cue of a Got, byte for byte in the first 24 of the output, and the rest untouched
abbrev pub got_output : List ℕ
got_output =
    0xFF ∷ 0xFE ∷ 0x01 ∷ 0x2C ∷ 0xF8 ∷ 0x30 ∷ 0x07 ∷ 0xCF ∷ 0x03 ∷ 0xE8 ∷ 1 ∷ 2 ∷ 3 ∷ 4 ∷ 5 ∷ 6 ∷ 7 ∷ 8 ∷ 9 ∷ 10 ∷ 11 ∷ 12 ∷ 13 ∷ 14 ∷ replicate 104 170

unfoldable pub stage_rows : List Case
stage_rows =
    case (given_by (members stage_params) (stage_call 3 105 (Arrival (stage_data 100 0 full_cue)) ∷ [])) ((answer.Got (name_at 7 0), got_output) ∷ [])
    ∷ case (given_by stage play) play_gives
    ∷ []
