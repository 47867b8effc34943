-- What an event that is taken does, and what it is given.
use Rattle.std.specs.Prelude.{ℕ, ◌-◌, ◌≤◌, ◌<◌, ◌≡◌, true, List}
use Rattle.message.specs.Limit.{number_limit, room_needed}
use Rattle.message.specs.declared.Message.{Message}
use Rattle.message.specs.Message.{Meaning, meaning_of}
use Rattle.message.specs.Question.{kind_has_counts, in_range}
use Rattle.end.specs.declared.Event.{Event}
use Rattle.end.specs.declared.Event.TheVariants.{Moves, Send, Arrival, Fire, Report, Fetch, Announce}
use Rattle.end.specs.declared.End.{End}
use Rattle.end.specs.Round.{draw_count}
use Rattle.end.specs.Answer.{Step}
use Rattle.end.specs.Arrival.{arrival_of}
use Rattle.end.specs.Fire.{fire_of}
use Rattle.end.specs.Fetch.{fetch_of}
use Rattle.end.specs.Event.{move_of, send_of, announce_of, other_of}
use Rattle.end.specs.Event as rules
use Rattle.state.specs.Settled.{Settled}

-- what an event that is taken does, with the meaning of an arrival's bytes
abbrev pub acted : List ℕ → Event → List ℕ → Meaning → End → Step
acted us (Moves m) cue M e = move_of m e
acted us Send cue M e = send_of us cue e
acted us Arrival cue M e = arrival_of us M e
acted us Fire cue M e = fire_of us e
acted us Report cue M e = other_of us rules.Report e
acted us (Fetch name) cue M e = fetch_of name e
acted us Announce cue M e = announce_of e

-- ---- what an event that is taken is given

-- a message that passed questions 9 and 10
pub record Passing (m : Message) : Type 0 where
  pub counts_in : kind_has_counts m.kind m.counts ≡ true
  pub ranges_in : in_range (number_limit - 1) (meaning_of m) ≡ true

-- by the event's own questions: Send's number, and the message of an arrival
abbrev pub OwnGiven : Event → End → Message → Type 0
OwnGiven (Moves m) e message = Unit {0}
OwnGiven Send e message = e.next < number_limit
OwnGiven Arrival e message = Passing message
OwnGiven Fire e message = Unit {0}
OwnGiven Report e message = Unit {0}
OwnGiven (Fetch name) e message = Unit {0}
OwnGiven Announce e message = Unit {0}

pub record Acting (what : Event) (e : End) (message : Message) (drawn bytes : ℕ) : Type 0 where
  pub settled : Settled e
  pub draws : drawn ≡ draw_count
  pub room : room_needed ≤ bytes
  pub own : OwnGiven what e message
