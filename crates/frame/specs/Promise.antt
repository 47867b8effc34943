-- What a call promises: its result and the output by the rules, and of the answer alone document 01's number and the outcome's values.
use Rattle.std.specs.Prelude.{◌≡◌, ℕ, List, [], ◌∷◌, length}
use Rattle.end.specs.declared.Answer.{Answer}
use Rattle.end.specs.declared.End.{End}
use Rattle.end.specs.declared.Stepped.{Stepped}
use Rattle.end.specs.Answer.{Out, Got, Done, Ignored, Nothing, Clash, Late, Exhausted, Outcome, Refused, Did, answer_number, answer_values}
use Rattle.end.specs.Event.{Action, question_of, event_of, gives, leaves}

-- "Out (length ..), Got (name ..), Done, Ignored, Nothing"; "A refusal gives only its number"; document 02, P4: "Clash, with the name";
-- P9: Late, "written as Got is", and "exhausted"
abbrev pub outcome_values : Outcome → List ℕ
outcome_values (Refused k) = []
outcome_values (Did (Out bytes)) = length bytes ∷ []
outcome_values (Did (Got name cue)) = name.source.0 ∷ name.number.0 ∷ []
outcome_values (Did Done) = []
outcome_values (Did Ignored) = []
outcome_values (Did Nothing) = []
outcome_values (Did (Clash name)) = name.source.0 ∷ name.number.0 ∷ []
outcome_values (Did (Late name cue)) = name.source.0 ∷ name.number.0 ∷ []
outcome_values (Did Exhausted) = []

-- the answer of a call: the number of its first no, 0 where every answer was yes, and the outcome's values
abbrev pub AnswerIs : End → Action → ℕ → List ℕ → List ℕ → Answer → Type 0
AnswerIs e a clock draws out answer =
    (answer_number answer ≡ question_of e a clock (length out) (length draws))
    × (answer_values answer ≡ outcome_values (event_of e a clock (length out) draws).outcome)

-- the result and the output that is left, and the answer once more
abbrev pub Promised : End → Action → ℕ → List ℕ → List ℕ → Stepped → List ℕ → Type 0
Promised e a clock draws out r left = (r ≡ gives e a clock draws out) × ((left ≡ leaves e a clock draws out) × AnswerIs e a clock draws out r.answer)
