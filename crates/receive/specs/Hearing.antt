-- What an arrival is given once every question was answered yes.
use Rattle.std.specs.Prelude.{◌≡◌, true, ℕ, ◌-◌, ◌≤◌, ◌<◌, List}
use Rattle.message.specs.declared.Host.{Host}
use Rattle.message.specs.declared.Message.{Message}
use Rattle.message.specs.declared.Report.{Report}
use Rattle.message.specs.Limit.{number_limit, room_needed, ticks_limit}
use Rattle.message.specs.Message.{meaning_of}
use Rattle.message.specs.Section.{all}
use Rattle.message.specs.Question.{kind_has_counts, in_range, report_in}
use Rattle.end.specs.declared.Moment.{Moment}
use Rattle.end.specs.declared.Source.{Source}
use Rattle.end.specs.declared.End.{End}
use Rattle.end.specs.State.{source_at, moment_of}
use Rattle.end.specs.Round.{draw_count}
use Rattle.end.specs.Ready.{Ranges, Ready}
use Rattle.state.specs.Counted.{Counted}

-- a message that passed the reader's questions, and the call's draws and room
pub record Passed (m : Message) (draws room : ℕ) : Type 0 where
  pub draws_in : draws ≡ draw_count
  pub room_in : room_needed ≤ room
  pub counts_in : kind_has_counts m.kind m.counts ≡ true
  pub ranges_in : in_range (number_limit - 1) (meaning_of m) ≡ true

-- each source of an end is counted
abbrev pub AllCounted : End → Type 0
AllCounted e = (h : Host) → h.0 < 8 → Counted (source_at e h)

-- an end whose clock is set hears it
pub record Hearing (e : End) (m : Message) (draws room : ℕ) : Type 0 where
  pub ready : Ready e
  pub counts : AllCounted e
  pub passed : Passed m draws room

-- its reports, at the end's moment
pub record Reporting (t : Moment) (e : End) (reports : List Report) (draws : ℕ) : Type 0 where
  pub moment : t ≡ moment_of e
  pub ready : Ready e
  pub counts : AllCounted e
  pub draws_in : draws ≡ draw_count
  pub ranges_in : all (report_in (number_limit - 1)) reports ≡ true

-- a step on one source of a message that has no word
pub record HeardOn (t : Moment) (m : Message) (room : ℕ) : Type 0 where
  pub clock : t.clock < ticks_limit
  pub room_in : room_needed ≤ room
  pub counts_in : kind_has_counts m.kind m.counts ≡ true
  pub ranges_in : in_range (number_limit - 1) (meaning_of m) ≡ true

-- a step of it on one source, with the requester d away
pub record HearingOn (t : Moment) (s : Source) (d : ℕ) (m : Message) (draws room : ℕ) : Type 0 where
  pub source : Ranges t s.distance
  pub counted : Counted s
  pub requester : Ranges t d
  pub passed : Passed m draws room
