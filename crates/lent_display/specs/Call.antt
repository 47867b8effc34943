-- The calls on a display that a host lends as bytes, by equations: the answer as a number, and the display, the lost numbers and the output after
-- it. What the calls on the display itself do is said by the crate display.
use Rattle.std.specs.Prelude.{◌≡◌, Option, ℕ, Bool, true, cond, not, ◌&&◌, List, [], ◌∷◌, ◌++◌, length, drop, leb, eqb}
use Rattle.message.specs.Limit.{room_needed}
use Rattle.message.specs.Question.{refusal_of}
use Rattle.end.specs.declared.Answer.{Answer}
use Rattle.end.specs.Answer.{answer_of, buffer_of}
use Rattle.display_window.specs.Parts.{Seen, Unstarted, Started, NoneAbove, Above}
use Rattle.display_window.specs.declared.Span.{Span}
use Rattle.display_window.specs.declared.Lost.{Lost}
use Rattle.display.specs.declared.Display.{Display}
use Rattle.display.specs.declared.OpenedDisplay.{OpenedDisplay}
use Rattle.display.specs.Display.{opening_of}
use Rattle.display.specs.Call.{Event, Hear, Result, event_of}
use Rattle.lent_answer.specs.Number.{NONE, host_of, number_of, is_refused}
use Rattle.lent_display.specs.Bytes.{display_width, display_from, is_display, display_bytes}

-- ---- hear and step

-- the numbers that a call lost, as four: document 02, P11: "a 64-bit set up from the old trail, and a span for those above the old lead". They are
-- the number from which the set counts, the set (bit i stands for that number + i), and the span's first and last, NONE where there is no span
abbrev pub lost_places : ℕ
lost_places = 4

abbrev pub above_numbers : Option Span → List ℕ
above_numbers NoneAbove = NONE ∷ NONE ∷ []
above_numbers (Above s) = s.first.0 ∷ s.last.0 ∷ []

abbrev pub lost_numbers : Lost → List ℕ
lost_numbers l = l.trail.0 ∷ l.set ∷ above_numbers l.above

-- the room that hear is asked about: that of the output, and none where the lost numbers have no place
abbrev pub hear_room : List ℕ → List ℕ → ℕ
hear_room lost out = cond (leb lost_places (length lost)) (length out) 0

-- what the call does on the display that the bytes hold
abbrev pub result_of : Event → ℕ → ℕ → List ℕ → Result
result_of ev clock room s = event_of (display_from s) ev clock room

-- whether it goes through: the bytes are a display's, and the call on that is not refused
unfoldable pub goes : Event → ℕ → ℕ → List ℕ → Bool
goes ev clock room s = is_display s && not (is_refused (answer_of (result_of ev clock room s).outcome))

-- question 1, whether the bytes are a display, 3, and then the display's own questions and its answer
unfoldable pub call_number : Event → ℕ → ℕ → List ℕ → ℕ
call_number ev clock room s = cond (leb room_needed room) (cond (is_display s) (number_of (answer_of (result_of ev clock room s).outcome)) 3) 1

-- document 01: "A refusal gives only its number; state, clock and buffers keep every byte."
unfoldable pub call_state : Event → ℕ → ℕ → List ℕ → List ℕ
call_state ev clock room s = cond (goes ev clock room s) (display_bytes (result_of ev clock room s).left) s

unfoldable pub call_lost : Event → ℕ → ℕ → List ℕ → List ℕ → List ℕ
call_lost ev clock room s lost = cond (goes ev clock room s) (lost_numbers (result_of ev clock room s).lost ++ drop lost_places lost) lost

unfoldable pub call_out : Event → ℕ → ℕ → List ℕ → List ℕ → List ℕ
call_out ev clock room s out = cond (goes ev clock room s) (buffer_of (result_of ev clock room s).outcome out) out

-- on bytes that are a display's and an output with room: what the functions below the calls promise
pub record Called (ev : Event) (clock : ℕ) (s s' out out' : List ℕ) (answer : Answer) : Type 0 where
  pub answered : answer ≡ answer_of (result_of ev clock (length out) s).outcome
  pub written : s' ≡ call_state ev clock (length out) s
  pub output : out' ≡ call_out ev clock (length out) s out
  pub tested : is_display s' ≡ true
  pub held : display_from s' ≡ (result_of ev clock (length out) s).left

-- a call on a display's bytes s, which are s' after it: its number and the output; and the bytes are a display's again and hold the one that the
-- call on the display leaves, so that a list of such calls is a list of calls on displays
pub record CallIs (ev : Event) (clock room : ℕ) (s s' out out' : List ℕ) (n : ℕ) : Type 0 where
  pub number : n ≡ call_number ev clock room s
  pub state : s' ≡ call_state ev clock room s
  pub output : out' ≡ call_out ev clock room s out
  pub kept : is_display s ≡ true → is_display s' ≡ true
  pub reads : is_display s ≡ true → display_from s' ≡ (result_of ev clock room s).left

-- hear, which also writes the lost numbers
abbrev pub HearIs : List ℕ → ℕ → List ℕ → List ℕ → List ℕ → List ℕ → List ℕ → ℕ → Type 0
HearIs bytes clock lost s s' out out' n = CallIs (Hear bytes) clock (hear_room lost out) s s' out out' n

abbrev pub hear_lost : List ℕ → ℕ → List ℕ → List ℕ → List ℕ → List ℕ
hear_lost bytes clock lost s out = call_lost (Hear bytes) clock (hear_room lost out) s lost

-- ---- opening
abbrev pub opened_for : ℕ → ℕ → OpenedDisplay
opened_for own sender = opening_of (host_of own) (host_of sender)

unfoldable pub open_number : ℕ → ℕ → List ℕ → ℕ
open_number own sender s = cond (eqb (length s) display_width) (refusal_of (opened_for own sender).verdict) 3

unfoldable pub open_state : ℕ → ℕ → List ℕ → List ℕ
open_state own sender s = cond (eqb (open_number own sender s) 0) (display_bytes (opened_for own sender).display) s

pub record OpenIs (own sender : ℕ) (s s' : List ℕ) (n : ℕ) : Type 0 where
  pub number : n ≡ open_number own sender s
  pub state : s' ≡ open_state own sender s
  pub kept : n ≡ 0 → is_display s' ≡ true
  pub reads : n ≡ 0 → display_from s' ≡ (opened_for own sender).display

-- ---- looks: what the display has, and NONE where it has none, or the bytes are no display's
abbrev pub look : (Display → ℕ) → List ℕ → ℕ
look f s = cond (is_display s) (f (display_from s)) NONE

abbrev pub trail_of : Seen → ℕ
trail_of Unstarted = NONE
trail_of (Started w) = w.trail.0

abbrev pub lead_of : Seen → ℕ
lead_of Unstarted = NONE
lead_of (Started w) = w.lead.0
