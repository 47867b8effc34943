-- The two calls on a display, their questions, and what a call gives. Document 02, P11: "hear and step set its clock and ask questions 1 and 3
-- to 5, hear 8 to 11 too".
use Rattle.std.specs.Prelude.{ℕ, cond, List, [], ◌∷◌, length, leb, eqb}
use Rattle.message.specs.Limit.{room_needed}
use Rattle.message.specs.Message.{datagram_from}
use Rattle.message.specs.Question.{Question, ask, first_no, read_questions, ticks_in}
use Rattle.end.specs.Answer.{Outcome, Refused, Did, answer_of, buffer_of}
use Rattle.display_window.specs.declared.Lost.{Lost}
use Rattle.display_window.specs.Window.{none_lost}
use Rattle.display.specs.declared.Display.{Display}
use Rattle.display.specs.declared.Shown.{Shown}
use Rattle.display.specs.Display.{sound_of, with_clock}
use Rattle.display.specs.Hear.{Hearing, hear_of}
use Rattle.display.specs.Request.{step_of}

pub data Event : Type 0 where
  Hear : List ℕ → Event
  Step : Event

-- "hear 8 to 11 too": the reader's
abbrev pub own_questions : Event → List Question
own_questions (Hear bytes) = read_questions bytes
own_questions Step = []

-- 1: the output's 128 bytes; 3: the state is sound; 4 and 5: the clock
abbrev pub questions : Display → Event → ℕ → ℕ → List Question
questions d ev clock room =
    ask (leb room_needed room) 1 ∷ ask (sound_of d) 3 ∷ ask (ticks_in clock) 4 ∷ ask (leb d.clock clock) 5 ∷ own_questions ev

unfoldable pub question_of : Display → Event → ℕ → ℕ → ℕ
question_of d ev clock room = first_no (questions d ev clock room)

-- an event on a display whose clock is set
abbrev pub act_of : Event → Display → Hearing
act_of (Hear bytes) d = hear_of (datagram_from bytes) d
act_of Step d = step_of d

-- a refusal "gives only its number; state, clock and buffers keep every byte", and nothing is lost
pub record Result : Type 0 where
  pub outcome : Outcome
  pub lost : Lost
  pub left : Display

abbrev pub done : Hearing → Result
done h = record { outcome = Did h.effect; lost = h.lost; left = h.left }

unfoldable pub event_of : Display → Event → ℕ → ℕ → Result
event_of d ev clock room =
    cond (eqb (question_of d ev clock room) 0)
    (done (act_of ev (with_clock d clock)))
    (record { outcome = Refused (question_of d ev clock room); lost = none_lost; left = d })

-- the declared value that a call gives, and what it leaves in the output that it was lent
abbrev pub gives : Display → Event → ℕ → List ℕ → Shown
gives d ev clock out =
    let r = event_of d ev clock (length out) in
    record { answer = answer_of r.outcome; lost = r.lost; display = r.left }

abbrev pub leaves : Display → Event → ℕ → List ℕ → List ℕ
leaves d ev clock out = buffer_of (event_of d ev clock (length out)).outcome out
