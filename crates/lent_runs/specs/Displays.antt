-- Lists of calls over a display's lent bytes, as statements; proofs/Displays.antt proves each. A host lends the bytes of a display to each of its
-- calls, and nobody else writes them. Such a list is one of the lists of calls on displays that the crate display_history speaks of: at every point the
-- bytes hold the display that those calls leave, and the numbers are those of their answers and losses. So all that is proved of those lists, every
-- number once among it (document 02, P11), holds of what the host sees.
use Rattle.std.specs.Prelude.{◌≡◌, false, cond, List, [], ◌∷◌, map, ℕ, ◌≤◌}
use Rattle.message.specs.Limit.{room_needed}
use Rattle.end.specs.Answer.{answer_of, buffer_of}
use Rattle.display.specs.Call.{Event, event_of}
use Rattle.display_history.specs.History.{Call, after_all, Told, told}
use Rattle.lent_answer.specs.Number.{number_of, is_refused}
use Rattle.lent_display.specs.Bytes.{is_display, Holds}
use Rattle.lent_display.specs.Call.{lost_numbers, call_number, call_state, call_lost, call_out, opened_for, open_number, open_state}
use Rattle.lent_runs.specs.Numbers.{outcome_in}

-- ---- a call gets the bytes that the last one left
abbrev pub state_after : List ℕ → Call → List ℕ
state_after s c = call_state c.event c.clock c.room s

unfoldable pub bytes_through : List ℕ → List Call → List ℕ
bytes_through s [] = s
bytes_through s (c ∷ cs) = bytes_through (state_after s c) cs

-- a call as its host sees it: the number that it answered, and the lost numbers that it wrote
pub record Given : Type 0 where
  pub number : ℕ
  pub lost : List ℕ

abbrev pub given_on : List ℕ → Call → Given
given_on s c = record { number = call_number c.event c.clock c.room s; lost = call_lost c.event c.clock c.room s [] }

unfoldable pub given : List ℕ → List Call → List Given
given s [] = []
given s (c ∷ cs) = given_on s c ∷ given (state_after s c) cs

-- the same of a call on a display: a refusal writes no lost numbers
abbrev pub as_given : Told → Given
as_given t = record { number = number_of (answer_of t.outcome); lost = cond (is_refused (answer_of t.outcome)) [] (lost_numbers t.lost) }

-- From an opening that answers 0, in any buffer: whatever the calls, refused ones among them, after them the bytes hold the display that the calls on
-- displays leave, and every call gave what the call on its display does.
pub record DisplayPlays (own sender : ℕ) (s : List ℕ) (cs : List Call) : Type 0 where
  pub holds : Holds (bytes_through (open_state own sender s) cs) (after_all (opened_for own sender).display cs)
  pub gives : given (open_state own sender s) cs ≡ map as_given (told (opened_for own sender).display cs)

abbrev pub DisplayIsPlayed : Type 0
DisplayIsPlayed = (own sender : ℕ) (s : List ℕ) → open_number own sender s ≡ 0 → (cs : List Call) → DisplayPlays own sender s cs

-- And of every further call, whatever output it was lent: the output that it leaves is that of the call on the display, and the outcome of that call is
-- read off the number and this output. So what is proved of outcomes holds of what the host sees.
abbrev pub DisplayReadsBack : Type 0
DisplayReadsBack = (own sender : ℕ) (s : List ℕ) → open_number own sender s ≡ 0 → (cs : List Call) (c : Call) (out : List ℕ)
    → let left = bytes_through (open_state own sender s) cs in
    let output = call_out c.event c.clock c.room left out in
    let o = (event_of (after_all (opened_for own sender).display cs) c.event c.clock c.room).outcome in
    (output ≡ buffer_of o out) × (outcome_in (call_number c.event c.clock c.room left) output ≡ o)

-- Bytes that are no display's, of any other form or of another length, are refused as 3, and nothing changes.
abbrev pub NoDisplayIsRefused : Type 0
NoDisplayIsRefused = (ev : Event) (clock room : ℕ) (s lost out : List ℕ) → room_needed ≤ room → is_display s ≡ false
    → (call_number ev clock room s ≡ 3)
    × (call_state ev clock room s ≡ s)
    × (call_lost ev clock room s lost ≡ lost)
    × (call_out ev clock room s out ≡ out)
