-- What a call answers, and what it leaves in the output. Document 01, "Events": "Answers: Out (length, the message in the first output
-- bytes), Got (name, and its cue in the first 24), Done, Ignored, Nothing. Other output bytes are untouched." An answer that is added
-- later is a case of `Effect` and of the declared `Answer`, and a line in each of `class_of`, `answer_of`, `answer_number` and `answer_values`
-- (and of `is_ignored`, Why.antt).
-- Document 02, P4: "a new answer, Clash, with the name; apart from the clock nothing changes"; P9: Late, "written as Got is", and "exhausted".
use Rattle.std.specs.Prelude.{ℕ, Bool, true, false, List, [], ◌∷◌, ◌++◌, length, take, drop}
use Rattle.message.specs.declared.Name.{Name}
use Rattle.end.specs.declared.Answer.{Answer}
use Rattle.end.specs.declared.Answer.TheVariants as answer
use Rattle.end.specs.declared.Stepped.{Stepped}
use Rattle.end.specs.declared.End.{End}

-- what an event that is not refused answers
pub data Effect : Type 0 where
  Out : List ℕ → Effect
  Got : Name → List ℕ → Effect
  Done : Effect
  Ignored : Effect
  Nothing : Effect
  Clash : Name → Effect
  Late : Name → List ℕ → Effect
  Exhausted : Effect

-- what an event does: its effect, and the state that it leaves
pub record Step : Type 0 where
  pub effect : Effect
  pub left : End

abbrev pub give : Effect → End → Step
give effect e = record { effect = effect; left = e }

-- "A refusal gives only its number; state, clock and buffers keep every byte."
pub data Outcome : Type 0 where
  Refused : ℕ → Outcome
  Did : Effect → Outcome

pub record Result : Type 0 where
  pub outcome : Outcome
  pub left : End

abbrev pub done : Step → Result
done step = record { outcome = Did step.effect; left = step.left }

-- ---- the answers classified, once: what one writes to the output
pub data Class : Type 0 where
  -- a message
  PutsOut : List ℕ → Class
  -- a cue, handed out under its name
  HandsOut : Name → List ℕ → Class
  -- a fetched cue, which lies outside the service's record of receptions
  HandsLate : Name → List ℕ → Class
  -- nothing
  Untouched : Class

abbrev pub class_of : Effect → Class
class_of (Out bytes) = PutsOut bytes
class_of (Got name cue) = HandsOut name cue
class_of Done = Untouched
class_of Ignored = Untouched
class_of Nothing = Untouched
class_of (Clash name) = Untouched
class_of (Late name cue) = HandsLate name cue
class_of Exhausted = Untouched

abbrev pub class_in : Outcome → Class
class_in (Refused k) = Untouched
class_in (Did a) = class_of a

abbrev pub hands_out : Class → Bool
hands_out (PutsOut bytes) = false
hands_out (HandsOut name cue) = true
hands_out (HandsLate name cue) = false
hands_out Untouched = false

abbrev pub written_by : Class → List ℕ
written_by (PutsOut bytes) = bytes
written_by (HandsOut name cue) = cue
written_by (HandsLate name cue) = cue
written_by Untouched = []

-- the output that a call leaves: what it writes in the first bytes, every other byte as it was
unfoldable pub buffer_of : Outcome → List ℕ → List ℕ
buffer_of o out = written_by (class_in o) ++ drop (length (written_by (class_in o))) out

-- ---- the declared answer
unfoldable pub answer_of : Outcome → Answer
answer_of (Refused k) = answer.Refused k
answer_of (Did (Out bytes)) = answer.Out (length bytes)
answer_of (Did (Got name cue)) = answer.Got name
answer_of (Did Done) = answer.Done
answer_of (Did Ignored) = answer.Ignored
answer_of (Did Nothing) = answer.Nothing
answer_of (Did (Clash name)) = answer.Clash name
answer_of (Did (Late name cue)) = answer.Late name
answer_of (Did Exhausted) = answer.Exhausted

-- what an onlooker reads off an answer and an output: "Out (length, the message in the first output bytes), Got (name, and its cue in the
-- first 24), Done, Ignored, Nothing"; document 02, P4: "Clash, with the name"; P9: "Late, written as Got is", and "exhausted"
unfoldable pub read_off : Answer → List ℕ → Outcome
read_off (answer.Refused k) output = Refused k
read_off (answer.Out n) output = Did (Out (take n output))
read_off (answer.Got name) output = Did (Got name (take 24 output))
read_off answer.Done output = Did Done
read_off answer.Ignored output = Did Ignored
read_off answer.Nothing output = Did Nothing
read_off (answer.Clash name) output = Did (Clash name)
read_off (answer.Late name) output = Did (Late name (take 24 output))
read_off answer.Exhausted output = Did Exhausted

-- what a call gives, refused or not: its answer, and the end that it leaves
abbrev pub called_of : Result → Stepped
called_of r = record { answer = answer_of r.outcome; end = r.left }

-- document 01's number of an answer, 0 where the call was not refused, and its values: the length of Out, the name of Got, of Clash and of Late
abbrev pub answer_number : Answer → ℕ
answer_number (answer.Refused k) = k
answer_number (answer.Out n) = 0
answer_number (answer.Got name) = 0
answer_number answer.Done = 0
answer_number answer.Ignored = 0
answer_number answer.Nothing = 0
answer_number (answer.Clash name) = 0
answer_number (answer.Late name) = 0
answer_number answer.Exhausted = 0

abbrev pub answer_values : Answer → List ℕ
answer_values (answer.Refused k) = []
answer_values (answer.Out n) = n ∷ []
answer_values (answer.Got name) = name.source.0 ∷ name.number.0 ∷ []
answer_values answer.Done = []
answer_values answer.Ignored = []
answer_values answer.Nothing = []
answer_values (answer.Clash name) = name.source.0 ∷ name.number.0 ∷ []
answer_values (answer.Late name) = name.source.0 ∷ name.number.0 ∷ []
answer_values answer.Exhausted = []
