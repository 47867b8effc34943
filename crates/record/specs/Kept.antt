-- Which lines a call leaves in a run's record. Document 02, P13: what such a record tells of are the moves, the sends and the cues that were
-- handed out. A refused call leaves none, and so does everything else that a call may answer.
use Rattle.std.specs.Prelude.{List, [], ◌∷◌, ℕ}
use Rattle.std.proofs.Math.Option.{Option, none, some}
use Rattle.message.specs.Message.{Meaning}
use Rattle.end.specs.Answer.{Effect, Out, Got, Done, Ignored, Nothing, Clash, Late, Exhausted, Outcome, Refused, Did}
use Rattle.end.specs.Event.{Action, Moves, Send, Arrival, Else}
use Rattle.end.specs.Book.{read_as, number}
use Rattle.record.specs.declared.Line.{Line}
use Rattle.record.specs.Line.{moved, sent, handed_out}

-- a move that moved, a send that was put out, with the number in its name, a cue that was handed out
abbrev pub moved_line : ℕ → Action → List Line
moved_line h (Moves m) = moved m h ∷ []
moved_line h (Send cue) = []
moved_line h (Arrival bytes) = []
moved_line h (Else o) = []

abbrev pub sent_line : ℕ → Action → Option Meaning → List Line
sent_line h (Moves m) o = []
sent_line h (Send cue) none = []
sent_line h (Send cue) (some m) = sent h (number m) cue ∷ []
sent_line h (Arrival bytes) o = []
sent_line h (Else e) o = []

unfoldable pub lines_for : ℕ → Action → Effect → List Line
lines_for h a (Out bytes) = sent_line h a (read_as bytes)
lines_for h a (Got name cue) = handed_out h name.source.0 name.number.0 cue ∷ []
lines_for h a Done = moved_line h a
lines_for h a Ignored = []
lines_for h a Nothing = []
lines_for h a (Clash name) = []
lines_for h a (Late name cue) = []
lines_for h a Exhausted = []

abbrev pub lines_of : ℕ → Action → Outcome → List Line
lines_of h a (Refused k) = []
lines_of h a (Did e) = lines_for h a e
