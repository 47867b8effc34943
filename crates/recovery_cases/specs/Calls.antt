-- The calls of the lists. The source is host 0, the cue is its number 1; other bytes of a cue are 0, and every draw of a call is the same. All ends have
-- the parameters of the house, 9, 8, 4, 4, 4, 8, or those of `prompt`, and every distance is 40 at first.
use Rattle.std.specs.Prelude.{List, [], ◌∷◌, ◌++◌, ℕ, replicate}
use Rattle.message.specs.Entry.{as_host}
use Rattle.message.specs.Message.{SESS, bytes_of}
use Rattle.message.specs.declared.Report.{Report}
use Rattle.end.specs.declared.Params.{Params}
use Rattle.end.specs.declared.Move.TheVariants.{Join, Joined}
use Rattle.end.specs.Event.{Action, Moves, Send, Arrival, Else, Fire, Report as Reporting}
use Rattle.guarantees.specs.Calls.{OneCall}
use Rattle.cases.specs.Listing.{minus_two}
use Rattle.cases.specs.Timed.{asks, repairs}
use Rattle.cases.specs.Express.{original}
use Rattle.recovery.specs.Recovery.{Side, Recovery}

-- a call whose draws are all 0: every wait is as short as it can be; and one whose draws are the greatest: every wait is as long as it can be
abbrev pub at : ℕ → Action → OneCall
at clock a = record { action = a; clock = clock; room = 128; draws = replicate 64 0 }

abbrev pub slow : ℕ → Action → OneCall
slow clock a = record { action = a; clock = clock; room = 128; draws = replicate 64 65535 }

abbrev pub fire : Action
fire = Else Fire

-- an event that does nothing to the cue, by which an end passes a time
abbrev pub past : ℕ → OneCall
past clock = at clock (Else Reporting)

-- what is heard of the source: number n; of a host: its request for the cue, put out at a clock, and its repair of it for another
abbrev pub cue : ℕ → Action
cue n = original 0 n

abbrev pub request : ℕ → ℕ → Action
request host clock = asks host clock 1

abbrev pub repair : ℕ → ℕ → ℕ → Action
repair host clock for = repairs host clock 1 for

-- a session message of a host, put out at a clock, with these reports
abbrev pub report : ℕ → ℕ → List Report → Action
report host clock reports =
    Arrival (bytes_of (record { kind = SESS; sender = as_host host; stamp = clock; names = []; cues = []; reports = reports; echoes = [] }))

-- a session message of a host with an echo of another: heard by that one e ticks after the stamp, it sets its distance to the host to e/8 or just above
abbrev pub echo : ℕ → ℕ → ℕ → Action
echo host of stamp = Arrival (bytes_of (record {
  kind = SESS;
  sender = as_host host;
  stamp = 0;
  names = [];
  cues = [];
  reports = [];
  echoes = record { host = as_host of; stamp = stamp; held = 0 } ∷ [];
}))

abbrev pub joined : List OneCall
joined = at 0 (Moves Join) ∷ at 0 (Moves Joined) ∷ []

-- an asker that has heard number 0, and lacks 1; the source, which has sent both; another member, which has heard both
abbrev pub heard0 : List OneCall
heard0 = joined ++ (at 12 (cue 0) ∷ [])

abbrev pub sent : List OneCall
sent = joined ++ (at 10 (Send minus_two) ∷ at 20 (Send minus_two) ∷ [])

abbrev pub heard_both : List OneCall
heard_both = joined ++ (at 12 (cue 0) ∷ at 15 (cue 1) ∷ [])

abbrev pub side : ℕ → Params → List OneCall → List OneCall → Side
side host p earlier later = record { me = as_host host; params = p; ahead = 0; earlier = earlier; later = later }

-- the recovery of the cue by one side from another, with Λ = 0
abbrev pub between : Side → Side → ℕ → ℕ → Recovery
between asker holder delay reach = record { source = 0; number = 1; asker = asker; holder = holder; delay = delay; late = 0; reach = reach }

-- D1 = D2 = D3 = 0 and C3 = 8: who holds a cue replies at once and is never quiet, and round 1 is long enough (J = 1)
abbrev pub prompt : Params
prompt = record { c1 = 9; c2 = 8; c3 = 8; d1 = 0; d2 = 0; d3 = 0; express = 0 }
