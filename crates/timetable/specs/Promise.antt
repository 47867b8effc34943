-- What the functions promise.
use Rattle.std.specs.Prelude.{◌≡◌, true, ◌⊎◌, List, ℕ, ◌+◌, ◌≤◌, ◌<◌, length, take}
use Rattle.numbers.specs.Splice.{splice}
use Rattle.answers.specs.Put.{Put}
use Rattle.openings.specs.declared.Window.{Window}
use Rattle.entries.specs.Line.{Line}
use Rattle.entries.specs.Print.{widest}
use Rattle.timetable.specs.declared.Turned.{Turned}
use Rattle.timetable.specs.declared.Step.{Step}
use Rattle.timetable.specs.declared.Progress.{Progress}
use Rattle.timetable.specs.Table.{line_list, line_prints, line_stops, list_in}
use Rattle.timetable.specs.Run.{Standing, ended, after_byte, byte_prints, after, prints, standing}

-- a line was played, and what it prints stands in the output from `at` on
pub record Plays (l : Line) (ws : List Window) (at : ℕ) (before output : List ℕ) (r : Turned) : Type 0 where
  pub list : list_in r.table ≡ line_list l ws
  pub stops : r.stopped ≡ line_stops l
  pub put : Put widest at (line_prints l ws) before output r.used

-- the same with the run: the next line has no bytes yet
pub record Ends (l : Line) (ws : List Window) (at : ℕ) (before output : List ℕ) (r : Step) : Type 0 where
  pub stands : standing r.playing ≡ ended l ws
  pub put : Put widest at (line_prints l ws) before output r.used

-- a byte was taken, and what it prints stands in the output from `at` on
pub record TakesByte (s : Standing) (b at : ℕ) (before output : List ℕ) (r : Step) : Type 0 where
  pub stands : standing r.playing ≡ after_byte s b
  pub put : Put widest at (byte_prints s b) before output r.used

-- bytes of a piece were taken: where that stands, and what they printed at the start of the output. All are taken, unless the run has
-- stopped or the output may have no room for the next line
pub record Feeds (s : Standing) (piece before output : List ℕ) (r : Progress) : Type 0 where
  pub stands : standing r.playing ≡ after s (take r.taken piece)
  pub output-is : output ≡ splice 0 (prints s (take r.taken piece)) before
  pub size : r.used ≡ length (prints s (take r.taken piece))
  pub inside : r.used ≤ length before
  pub taken_in : r.taken ≤ length piece
  pub goes_on : (r.taken ≡ length piece) ⊎ ((r.playing.stopped ≡ true) ⊎ (length before < r.used + widest))
