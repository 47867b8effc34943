-- A message about a name as a step on the name's source: what it asks for, and what it gives.
use Rattle.std.specs.Prelude.{ℕ}
use Rattle.end.specs.declared.Source.{Source}
use Rattle.end.specs.declared.Moment.{Moment}
use Rattle.end.specs.declared.Word.{Word}
use Rattle.end.specs.Answer.{Effect}
use Rattle.end.specs.Ready.{Ranges, Numbered}
use Rattle.end.specs.Decide.{number, known, decide, effect_of}
use Rattle.state.specs.Counted.{Counted}

-- the distances to the source and to the requester in range, the source counted, and the number and the draws that the questions let
-- through
pub record Heeded (t : Moment) (w : Word) (s : Source) (draws : ℕ) : Type 0 where
  pub source : Ranges t s.distance
  pub counted : Counted s
  pub requester : Ranges t w.distance
  pub numbered : Numbered (number w) draws

-- what is decided is done, and answered
abbrev pub decided_effect : Moment → Word → Source → Effect
decided_effect t w s = effect_of t w (known w s) (decide t w s)
