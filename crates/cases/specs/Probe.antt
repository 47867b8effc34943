-- The probe. Document 02, P5: "A message of no bytes is now taken by a member as a Report event at that clock, and by any other status as
-- Ignored. The reader alone answers "probe" for it, and the writer writes it for "probe". .. Number 8 is from then on for lengths 1 to 11".
use Rattle.std.specs.Prelude.{ℕ, List, [], ◌∷◌, ◌++◌, replicate}
use Rattle.message.specs.Entry.{as_host}
use Rattle.message.specs.Message.{SESS, Probe}
use Rattle.message.specs.Question.{blank_message, read_of, written_of, output_of}
use Rattle.message.specs.declared.Verdict.TheVariants as verdict
use Rattle.end.specs.declared.Status.{Status}
use Rattle.end.specs.declared.Status.TheVariants.{Idle, Joining, Member, Leaving, Crashed}
use Rattle.end.specs.declared.End.{End}
use Rattle.end.specs.State.{fresh_end, with_clock}
use Rattle.end.specs.Answer.{Out, Ignored, Outcome, Refused, Did, Result}
use Rattle.end.specs.Event.{Arrival, event_of}
use Rattle.end.specs.Opening.{house_params}
use Rattle.end.specs.Run.{Call}
use Rattle.cases.specs.Case.{Case, case}
use Rattle.cases.specs.Listing.{call, got, message0, script, printed}
use Rattle.cases.specs.NotRuns.{hears, Limit}

-- host 0's end in a status, at clock 0, and a probe that comes to it at clock 5, with so much output
abbrev pub standing : Status → End
standing status = fresh_end (as_host 0) house_params status

abbrev pub probed : Status → ℕ → Result
probed status room = event_of (standing status) (Arrival []) 5 room (replicate 64 0)

abbrev pub gives : Outcome → End → Result
gives o e = record { outcome = o; left = e }

-- the session message of such a member at clock 5
abbrev pub session5 : List ℕ
session5 = SESS ∷ 0 ∷ 0 ∷ 0 ∷ 0 ∷ 0 ∷ 0 ∷ 5 ∷ 0 ∷ 0 ∷ 0 ∷ 0 ∷ []

unfoldable pub probe_rows : List Case
probe_rows =
    -- in the five statuses
    case (probed Idle 128) (gives (Did Ignored) (with_clock (standing Idle) 5))
    ∷ case (probed Joining 128) (gives (Did Ignored) (with_clock (standing Joining) 5))
    ∷ case (probed Member 128) (gives (Did (Out session5)) (with_clock (standing Member) 5))
    ∷ case (probed Leaving 128) (gives (Did Ignored) (with_clock (standing Leaving) 5))
    ∷ case (probed Crashed 128) (gives (Did Ignored) (standing Crashed))
    -- questions 1 to 5 come first
    ∷ case (probed Member 127) (gives (Refused 1) (standing Member))
    -- written over an output of 128 bytes, and of 127
    ∷ case (written_of Probe (replicate 128 170)) (record { verdict = verdict.Accepted; len = 0 })
    ∷ case (output_of Probe (replicate 128 170)) (replicate 128 170)
    ∷ case (written_of Probe (replicate 127 170)) (record { verdict = verdict.Refused 1; len = 0 })
    -- read, beside 1 and 11 bytes
    ∷ case (read_of []) (record { verdict = verdict.Probe; message = blank_message })
    ∷ case (read_of (0 ∷ [])) (record { verdict = verdict.Refused 8; message = blank_message })
    ∷ case (read_of (replicate 11 0)) (record { verdict = verdict.Refused 8; message = blank_message })
    ∷ []

-- "In the service's runs such a datagram may come from anywhere.": the listing with a probe before it and one after, which nobody put out
abbrev pub probing : List Call
probing = call 0 0 (Arrival []) ∷ script ++ (call 1 571 (Arrival []) ∷ [])

-- end 1's session message at clock 571, hexadecimal 23B, with source 0 up to number 2
abbrev pub session571 : List ℕ
session571 = SESS ∷ 1 ∷ 0 ∷ 0 ∷ 0 ∷ 0 ∷ 0x02 ∷ 0x3B ∷ 0 ∷ 0 ∷ 1 ∷ 0 ∷ 0 ∷ 2 ∷ 0 ∷ []

abbrev pub probing_gives : List Outcome
probing_gives = Did Ignored ∷ printed ++ (Did (Out session571) ∷ [])

-- "Other Arrivals, ..: nothing changes, never Got.": a probe hands out no cue, even one that an original would
abbrev pub got_by_probe : Limit
got_by_probe = record {
  before = [];
  wrong = hears 1 [] (got 0);
  right = hears 1 [] (Did (Out (SESS ∷ 1 ∷ replicate 10 0)));
  instead = hears 1 message0 (got 0) ∷ [];
}
