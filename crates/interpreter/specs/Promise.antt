-- What the functions promise.
use Rattle.std.specs.Prelude.{◌≡◌, true, ◌⊎◌, List, [], ℕ, ◌+◌, ◌≤◌, ◌<◌, length, take}
use Rattle.numbers.specs.Splice.{splice}
use Rattle.lines.specs.declared.Fed.{Fed}
use Rattle.lines.specs.declared.Fed.TheVariants.{More, Whole, TooLong}
use Rattle.script.specs.Line.{Line}
use Rattle.script.specs.Line.{Malformed}
use Rattle.script.specs.Line.{line_of}
use Rattle.answers.specs.Put.{Put}
use Rattle.player.specs.House.{House, widest, line_prints}
use Rattle.interpreter.specs.declared.Turned.{Turned}
use Rattle.interpreter.specs.declared.Progress.{Progress}
use Rattle.interpreter.specs.Interpreter.{Standing, within, ended, after, prints, standing, standing_of}

-- a line was played, and what it prints stands in the output from `at` on
pub record PlaysLine (l : Line) (h : House) (at : ℕ) (before output : List ℕ) (r : Turned) : Type 0 where
  pub stands : standing_of r.pair [] 0 r.stopped ≡ ended l h
  pub fresh : r.len ≡ 0
  pub put : Put widest at (line_prints l h) before output r.used

-- the standing by what became of a line, whose bytes are in a buffer, and what that prints
abbrev pub fed_standing : Fed → List ℕ → House → Standing
fed_standing (More n) line h = within h (take n line)
fed_standing (Whole n) line h = ended (line_of (take n line)) h
fed_standing TooLong line h = ended Malformed h

abbrev pub fed_prints : Fed → List ℕ → House → List ℕ
fed_prints (More n) line h = []
fed_prints (Whole n) line h = line_prints (line_of (take n line)) h
fed_prints TooLong line h = line_prints Malformed h

-- the same with the line's buffer: a line goes on, or was played
pub record Turns (fed : Fed) (line : List ℕ) (h : House) (at : ℕ) (before output : List ℕ) (r : Turned) : Type 0 where
  pub stands : standing_of r.pair line r.len r.stopped ≡ fed_standing fed line h
  pub put : Put widest at (fed_prints fed line h) before output r.used

-- bytes of a piece were taken: where that stands, and what they printed at the start of the output. All are taken, unless the script
-- has stopped or the output may have no room for the next line
pub record Feeds (s : Standing) (piece before output : List ℕ) (r : Progress) : Type 0 where
  pub stands : standing r.playing ≡ after s (take r.taken piece)
  pub output-is : output ≡ splice 0 (prints s (take r.taken piece)) before
  pub size : r.used ≡ length (prints s (take r.taken piece))
  pub inside : r.used ≤ length before
  pub taken_in : r.taken ≤ length piece
  pub goes_on : (r.taken ≡ length piece) ⊎ ((r.playing.stopped ≡ true) ⊎ (length before < r.used + widest))
