-- What Fire, Report and Announce are given: the call has seen that the end is a member's and sound, has set its clock, and has asked the
-- questions.
use Rattle.message.specs.Limit.{room_needed}
use Rattle.std.specs.Prelude.{◌≡◌, ℕ, ◌≤◌, ◌<◌}
use Rattle.end.specs.declared.End.{End}
use Rattle.end.specs.declared.Wait.{Wait}
use Rattle.end.specs.Round.{draw_count}
use Rattle.state.specs.Settled.{Settled}

pub record Firing (e : End) (drawn bytes : ℕ) : Type 0 where
  pub settled : Settled e
  pub draws : drawn ≡ draw_count
  pub room : room_needed ≤ bytes

-- Report, and Announce too
pub record Reporting (e : End) (bytes : ℕ) : Type 0 where
  pub settled : Settled e
  pub room : room_needed ≤ bytes

-- a wait of a host's source goes out
pub record FiringOf (e : End) (w : Wait) (drawn bytes : ℕ) : Type 0 where
  pub firing : Firing e drawn bytes
  pub source : w.name.source.0 < 8
