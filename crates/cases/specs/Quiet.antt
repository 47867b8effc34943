-- Reply-quiet times: REPL sets them either way, and holding a cue keeps them. Document 01, "Events".
use Rattle.std.specs.Prelude.{ℕ, List, [], ◌∷◌}
use Rattle.message.specs.Entry.{as_host}
use Rattle.end.specs.declared.Record.{Record}
use Rattle.end.specs.declared.End.{End}
use Rattle.end.specs.State.{source_at, with_source}
use Rattle.end.specs.Records.{record_at, with_record}
use Rattle.end.specs.Answer.{Done, Ignored, Nothing}
use Rattle.end.specs.Event.{Arrival, Else, Fire}
use Rattle.end.specs.Answer.{Outcome, Did}
use Rattle.end.specs.Opening.{house_params}
use Rattle.end.specs.Run.{World, Call, seen, result_of, world_after}
use Rattle.cases.specs.Case.{Case, case}
use Rattle.cases.specs.Listing.{call, got, message0, message1, message2, outcomes}
use Rattle.cases.specs.Timed.{members, asks, repairs, asked, quiet_to, gives}

-- ---- "REPL: .. Not held: as DATA, Got; held: Done. Either way its waiting reply goes and reply-quiet = t + D3×d, d to the requester":
-- at clock 100, at 40 ms, it is 100 + 8×40

-- end 1 misses name 0,1, and a repair for end 2 brings it
abbrev pub gap_repaired : List Call
gap_repaired = call 1 12 (Arrival message0) ∷ call 1 32 (Arrival message2) ∷ call 1 100 (repairs 0 99 1 2) ∷ asked 1 420 1

-- end 1 holds name 0,0 and has a reply waiting, due at 50 + 4×40. The reply goes; a DATA of the held cue keeps the reply-quiet time
abbrev pub held_repaired : List Call
held_repaired =
    call 1 12 (Arrival message0)
    ∷ call 1 50 (asks 2 49 0)
    ∷ call 1 100 (repairs 0 99 0 2)
    ∷ call 1 101 (Arrival message0)
    ∷ call 1 300 (Else Fire)
    ∷ asked 1 420 0

-- ---- "DATA: .. Otherwise hold it, drop its request, Got": no word of reply-quiet, so it stays

-- the reply-quiet time of name 0,1 set
abbrev pub with_quiet : ℕ → Record → Record
with_quiet t r = record { slot = r.slot; cue = r.cue; hush = t }

abbrev pub gap_quieted : ℕ → End → End
gap_quieted t e = let s = source_at e (as_host 0) in with_source e (as_host 0) (with_record s 1 (with_quiet t (record_at s 1)))

-- the ends once end 1 has missed name 0,1
abbrev pub heard0 : World
heard0 = world_after (members house_params) 1 (result_of (members house_params) (call 1 12 (Arrival message0)))

abbrev pub missed : World
missed = world_after heard0 1 (result_of heard0 (call 1 32 (Arrival message2)))

-- and with a reply-quiet time of 900 beside its request. That is sound, though no calls on an opened end lead there
abbrev pub missed_quiet : World
missed_quiet = record { ends = λ h. gap_quieted 900 (missed.ends h); sent = [] }

abbrev pub gives_from : World → List Call → List Outcome → Case
gives_from w calls answers = case (outcomes (seen w calls)) answers

unfoldable pub quiet_rows : List Case
quiet_rows =
    gives house_params gap_repaired (got 0 ∷ got 2 ∷ got 1 ∷ quiet_to)
    ∷ gives house_params held_repaired (got 0 ∷ Did Done ∷ Did Done ∷ Did Ignored ∷ Did Nothing ∷ quiet_to)
    -- the original comes: the time that stood there, with none the time 0
    ∷ gives_from missed_quiet (call 1 40 (Arrival message1) ∷ asked 1 900 1) (got 1 ∷ quiet_to)
    ∷ gives_from missed (call 1 40 (Arrival message1) ∷ call 1 40 (asks 3 0 1) ∷ []) (got 1 ∷ Did Done ∷ [])
    -- a repair comes: it is set anew
    ∷ gives_from missed_quiet (call 1 100 (repairs 0 99 1 2) ∷ asked 1 420 1) (got 1 ∷ quiet_to)
    ∷ []
