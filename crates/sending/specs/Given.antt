-- What Send is given: the call has seen that the end is a member's and sound, has set its clock, and has asked the questions.
use Rattle.message.specs.Limit.{number_limit, room_needed}
use Rattle.std.specs.Prelude.{◌≡◌, ℕ, ◌≤◌, ◌<◌}
use Rattle.end.specs.declared.Moment.{Moment}
use Rattle.end.specs.declared.Source.{Source}
use Rattle.end.specs.declared.End.{End}
use Rattle.end.specs.Round.{draw_count}
use Rattle.end.specs.Ready.{Ranges, Numbered}
use Rattle.state.specs.Counted.{Counted}
use Rattle.state.specs.Settled.{Settled}

-- a member's next number is a cue number, and the output has room for a message
pub record Sending (e : End) (drawn bytes : ℕ) : Type 0 where
  pub settled : Settled e
  pub next : e.next < number_limit
  pub draws : drawn ≡ draw_count
  pub room : room_needed ≤ bytes

-- the own source, whose last rises to number n
pub record Rising (t : Moment) (s : Source) (n draws : ℕ) : Type 0 where
  pub source : Ranges t s.distance
  pub numbered : Numbered n draws
  pub counted : Counted s
