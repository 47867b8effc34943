-- The answers one by one: what document 01's number and values of each are, which of them the book takes for Got, and what each leaves in
-- the output. Document 01, "Events": "Answers: Out (length, the message in the first output bytes), Got (name, and its cue in the first
-- 24), Done, Ignored, Nothing. Other output bytes are untouched." Document 02, P4: "a new answer, Clash, with the name".
use Rattle.std.specs.Prelude.{ℕ, true, false, List, [], ◌∷◌}
use Rattle.message.specs.declared.Name.{Name}
use Rattle.message.specs.Entry.{as_host, as_number}
use Rattle.end.specs.Answer.{Outcome, Refused, Did, Out, Got, Done, Ignored, Nothing, Clash, Late, Exhausted, answer_of, answer_number, answer_values, buffer_of}
use Rattle.end.specs.Book.{is_got}
use Rattle.cases.specs.Case.{Case, case}

abbrev name35 : Name
name35 = record { source = as_host 3; number = as_number 5 }

-- document 01's number of an outcome, and its values
abbrev pub number_of : Outcome → ℕ
number_of o = answer_number (answer_of o)

abbrev pub values_of : Outcome → List ℕ
values_of o = answer_values (answer_of o)

unfoldable pub answer_rows : List Case
answer_rows =
    case (number_of (Refused 7)) 7
    ∷ case (values_of (Refused 7)) []
    ∷ case (number_of (Did (Out (9 ∷ 9 ∷ [])))) 0
    ∷ case (values_of (Did (Out (9 ∷ 9 ∷ [])))) (2 ∷ [])
    ∷ case (values_of (Did (Got name35 (9 ∷ [])))) (3 ∷ 5 ∷ [])
    ∷ case (values_of (Did Done)) []
    ∷ case (is_got (Out (9 ∷ []))) false
    ∷ case (is_got (Got name35 (9 ∷ []))) true
    ∷ case (is_got Done) false
    ∷ case (is_got Ignored) false
    ∷ case (is_got Nothing) false
    ∷ case (buffer_of (Refused 7) (1 ∷ 2 ∷ 3 ∷ [])) (1 ∷ 2 ∷ 3 ∷ [])
    ∷ case (buffer_of (Did (Out (9 ∷ 8 ∷ []))) (1 ∷ 2 ∷ 3 ∷ [])) (9 ∷ 8 ∷ 3 ∷ [])
    ∷ case (buffer_of (Did (Got name35 (9 ∷ []))) (1 ∷ 2 ∷ 3 ∷ [])) (9 ∷ 2 ∷ 3 ∷ [])
    ∷ case (buffer_of (Did Done) (1 ∷ 2 ∷ 3 ∷ [])) (1 ∷ 2 ∷ 3 ∷ [])
    ∷ case (buffer_of (Did Ignored) (1 ∷ 2 ∷ 3 ∷ [])) (1 ∷ 2 ∷ 3 ∷ [])
    ∷ case (buffer_of (Did Nothing) (1 ∷ 2 ∷ 3 ∷ [])) (1 ∷ 2 ∷ 3 ∷ [])
    ∷ case (number_of (Did (Clash name35))) 0
    ∷ case (values_of (Did (Clash name35))) (3 ∷ 5 ∷ [])
    ∷ case (is_got (Clash name35)) false
    ∷ case (buffer_of (Did (Clash name35)) (1 ∷ 2 ∷ 3 ∷ [])) (1 ∷ 2 ∷ 3 ∷ [])
    -- P9: "Late, written as Got is", and no Got
    ∷ case (number_of (Did (Late name35 (9 ∷ [])))) 0
    ∷ case (values_of (Did (Late name35 (9 ∷ [])))) (3 ∷ 5 ∷ [])
    ∷ case (is_got (Late name35 (9 ∷ []))) false
    ∷ case (buffer_of (Did (Late name35 (9 ∷ []))) (1 ∷ 2 ∷ 3 ∷ [])) (9 ∷ 2 ∷ 3 ∷ [])
    ∷ case (number_of (Did Exhausted)) 0
    ∷ case (values_of (Did Exhausted)) []
    ∷ case (is_got Exhausted) false
    ∷ case (buffer_of (Did Exhausted) (1 ∷ 2 ∷ 3 ∷ [])) (1 ∷ 2 ∷ 3 ∷ [])
    ∷ []
