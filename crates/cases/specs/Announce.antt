-- Announce and kind 24. Document 02, P11: "a member put[s] out its own first and last as trail and lead in kind 24, two names laid out as kind
-- 18's with the sender as source and host; without a first it gives Nothing, outside membership Ignored. Over a sender's calls neither falls;
-- lead is from trail to trail+63, else 11. Members answer kind 24 Done."
use Rattle.std.specs.Prelude.{ℕ, List, [], ◌∷◌, ◌++◌, replicate}
use Rattle.message.specs.Entry.{as_host, as_number}
use Rattle.message.specs.Message.{DATA, ANNC, Meaning, Saying, held_as}
use Rattle.message.specs.Question.{read_of, written_of}
use Rattle.message.specs.declared.NameEntry.{NameEntry}
use Rattle.message.specs.declared.Verdict.TheVariants.{Accepted}
use Rattle.end.specs.declared.Move.TheVariants.{Join, Joined, Leave, Left}
use Rattle.end.specs.declared.Reason.TheVariants as reason
use Rattle.end.specs.declared.Why.TheVariants.{Because, NoReason}
use Rattle.end.specs.Parts.{Open}
use Rattle.end.specs.declared.Status.{Status}
use Rattle.end.specs.declared.Status.TheVariants.{Idle, Joining, Member, Leaving, Crashed}
use Rattle.end.specs.State.{source_at, with_clock}
use Rattle.end.specs.Answer.{Out, Done, Ignored, Nothing, Outcome, Refused, Did, Result}
use Rattle.end.specs.Event.{Moves, Send, Arrival, Else, Announce, event_of}
use Rattle.end.specs.Opening.{house_params}
use Rattle.end.specs.Run.{Call}
use Rattle.end.specs.Why.{why_of}
use Rattle.cases.specs.Case.{Case, case}
use Rattle.cases.specs.Listing.{call, minus_two, about, got, message0}
use Rattle.cases.specs.Timed.{gives}
use Rattle.cases.specs.Reasons.{end_by, sent, heard0, idle0, crashed1}
use Rattle.cases.specs.Probe.{standing, gives as leaving}
use Rattle.cases.specs.Wire.{stamp, head, refuses, both_ways, neither_way}

-- ---- kind 24 as bytes, of end 5
abbrev pub entry : ℕ → ℕ → ℕ → NameEntry
entry source number host = record { name = record { source = as_host source; number = as_number number }; host = as_host host }

abbrev pub saying : List NameEntry → Meaning
saying names = record { kind = ANNC; sender = as_host 5; stamp = stamp; names = names; cues = []; reports = []; echoes = [] }

abbrev pub window : ℕ → ℕ → Meaning
window trail lead = saying (entry 5 trail 5 ∷ entry 5 lead 5 ∷ [])

-- with the numbers' bytes
abbrev pub window_bytes : ℕ → ℕ → ℕ → ℕ → List ℕ
window_bytes a b c d = head 24 5 ++ (2 ∷ 5 ∷ a ∷ b ∷ 5 ∷ 5 ∷ c ∷ d ∷ 5 ∷ 0 ∷ 0 ∷ 0 ∷ [])

-- names with another source or another host, the first and the second
abbrev pub strange : ℕ → ℕ → ℕ → ℕ → Meaning
strange source host source' host' = saying (entry source 0x0221 host ∷ entry source' 0x0222 host' ∷ [])

abbrev pub strange_bytes : ℕ → ℕ → ℕ → ℕ → List ℕ
strange_bytes source host source' host' =
    head 24 5 ++ (2 ∷ source ∷ 0x02 ∷ 0x21 ∷ host ∷ source' ∷ 0x02 ∷ 0x22 ∷ host' ∷ 0 ∷ 0 ∷ 0 ∷ [])

unfoldable pub announced_rows : List Case
announced_rows =
    -- "two names laid out as kind 18's": 20 bytes
    case (written_of (Saying (held_as (window 0x0221 0x0230))) (replicate 128 170)) (record { verdict = Accepted; len = 20 })
    ∷ both_ways (window 0x0221 0x0230) (window_bytes 0x02 0x21 0x02 0x30)
    -- "lead is from trail to trail+63, else 11"
    ++ (both_ways (window 0x0221 0x0221) (window_bytes 0x02 0x21 0x02 0x21)
    ++ (neither_way 11 (window 0x0221 0x0220) (window_bytes 0x02 0x21 0x02 0x20)
    ++ (both_ways (window 0x0221 0x0260) (window_bytes 0x02 0x21 0x02 0x60)
    ++ (neither_way 11 (window 0x0221 0x0261) (window_bytes 0x02 0x21 0x02 0x61)
    -- the greatest number
    ++ (both_ways (window 65472 65535) (window_bytes 0xFF 0xC0 0xFF 0xFF)
    ++ (both_ways (window 65535 65535) (window_bytes 0xFF 0xFF 0xFF 0xFF)
    ++ (neither_way 11 (window 65471 65535) (window_bytes 0xFF 0xBF 0xFF 0xFF)
    -- "with the sender as source and host"
    ++ (neither_way 11 (strange 2 5 5 5) (strange_bytes 2 5 5 5)
    ++ (neither_way 11 (strange 5 2 5 5) (strange_bytes 5 2 5 5)
    ++ (neither_way 11 (strange 5 5 2 5) (strange_bytes 5 5 2 5)
    ++ (neither_way 11 (strange 5 5 5 2) (strange_bytes 5 5 5 2)
    -- one name, and three
    ++ (neither_way 9 (saying (entry 5 7 5 ∷ [])) (head 24 5 ++ (1 ∷ 5 ∷ 0 ∷ 7 ∷ 5 ∷ 0 ∷ 0 ∷ 0 ∷ []))
    ++ (case (read_of (head 24 5 ++ (3 ∷ 5 ∷ 0 ∷ 7 ∷ 5 ∷ 5 ∷ 0 ∷ 7 ∷ 5 ∷ 5 ∷ 0 ∷ 7 ∷ 5 ∷ 0 ∷ 0 ∷ 0 ∷ []))) (refuses 9) ∷ [])))))))))))))

-- ---- the event

-- end h announces trail..lead, byte for byte, at a clock below 256
abbrev pub announced : ℕ → ℕ → ℕ → ℕ → List ℕ
announced h clock trail lead = 24 ∷ h ∷ 0 ∷ 0 ∷ 0 ∷ 0 ∷ 0 ∷ clock ∷ 2 ∷ h ∷ 0 ∷ trail ∷ h ∷ h ∷ 0 ∷ lead ∷ h ∷ 0 ∷ 0 ∷ 0 ∷ []

-- end 0 with no first, with one number, with two; after a rejoin, whose first is its next number. Its own kind 24 that comes back is Ignored
abbrev pub announcing : List Call
announcing =
    call 0 5 (Else Announce)
    ∷ call 0 10 (Send minus_two)
    ∷ call 0 20 (Else Announce)
    ∷ call 0 30 (Send minus_two)
    ∷ call 0 40 (Else Announce)
    ∷ call 0 41 (Arrival (announced 0 40 0 1))
    ∷ call 0 50 (Moves Leave)
    ∷ call 0 51 (Else Announce)
    ∷ call 0 52 (Moves Left)
    ∷ call 0 53 (Moves Join)
    ∷ call 0 54 (Moves Joined)
    ∷ call 0 55 (Else Announce)
    ∷ call 0 60 (Send minus_two)
    ∷ call 0 70 (Else Announce)
    ∷ []

abbrev pub announcing_gives : List Outcome
announcing_gives =
    Did Nothing
    ∷ Did (Out message0)
    ∷ Did (Out (announced 0 20 0 0))
    ∷ Did (Out (about DATA 0 30 1 0 (minus_two ∷ [])))
    ∷ Did (Out (announced 0 40 0 1))
    ∷ Did Ignored
    ∷ Did Done
    ∷ Did Ignored
    ∷ Did Done
    ∷ Did Done
    ∷ Did Done
    ∷ Did Nothing
    ∷ Did (Out (about DATA 0 60 2 0 (minus_two ∷ [])))
    ∷ Did (Out (announced 0 70 2 2))
    ∷ []

-- "Members answer kind 24 Done": end 1, which has number 0 of source 0, hears that there are 0 to 5, and asks for none
abbrev pub told : List Call
told = heard0 ++ (call 1 30 (Arrival (announced 0 29 0 5)) ∷ [])

-- in a status, at clock 5
abbrev pub announces : Status → ℕ → Result
announces status room = event_of (standing status) (Else Announce) 5 room (replicate 64 0)

unfoldable pub announce_rows : List Case
announce_rows =
    gives house_params announcing announcing_gives
    ∷ gives house_params told (got 0 ∷ Did Done ∷ [])
    ∷ case (source_at (end_by 1 told) (as_host 0)).span (Open (as_number 0) (as_number 0))
    -- in the five statuses, with no first; a refused one
    ∷ case (announces Idle 128) (leaving (Did Ignored) (with_clock (standing Idle) 5))
    ∷ case (announces Joining 128) (leaving (Did Ignored) (with_clock (standing Joining) 5))
    ∷ case (announces Member 128) (leaving (Did Nothing) (with_clock (standing Member) 5))
    ∷ case (announces Leaving 128) (leaving (Did Ignored) (with_clock (standing Leaving) 5))
    ∷ case (announces Crashed 128) (leaving (Did Ignored) (standing Crashed))
    ∷ case (announces Member 127) (leaving (Refused 1) (standing Member))
    -- the reasons: of Announce, and of kind 24
    ∷ case (why_of idle0 30 (Else Announce)) (Because reason.WrongStatus)
    ∷ case (why_of crashed1 30 (Else Announce)) (Because reason.Crashed)
    ∷ case (why_of (end_by 0 sent) 30 (Else Announce)) NoReason
    ∷ case (why_of (end_by 0 sent) 30 (Arrival (announced 0 29 0 0))) (Because reason.OwnMessage)
    ∷ case (why_of (end_by 1 heard0) 30 (Arrival (announced 0 29 0 5))) NoReason
    ∷ []
