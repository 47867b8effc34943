-- A call on the lent bytes of an end, by equations: its answer as a number, the bytes and the output after it. "Bytes of any other form, or of
-- another length, are refused as 3, in 3's place among the questions (after 1 and 2, before 4). A refusal changes no byte of state and output."
use Rattle.std.specs.Prelude.{◌≡◌, ℕ, Bool, true, cond, ◌&&◌, List, length, leb, eqb}
use Rattle.message.specs.Limit.{room_needed}
use Rattle.end.specs.declared.Answer.{Answer}
use Rattle.end.specs.declared.End.{End}
use Rattle.end.specs.declared.Stepped.{Stepped}
use Rattle.end.specs.Round.{draw_count}
use Rattle.end.specs.Event.{Action, gives, leaves}
use Rattle.lent_answer.specs.Number.{number_of, is_refused}
use Rattle.lent_end.specs.State.{end_from, is_state, end_bytes}

-- ---- the bytes after an event on an end that they hold: refused, as they were; else those of the end that it leaves
abbrev pub after : Stepped → List ℕ → List ℕ
after r s = cond (is_refused r.answer) s (end_bytes r.end)

abbrev pub end_after : Stepped → End → End
end_after r e = cond (is_refused r.answer) e r.end

-- such an event: the answer, the output, the bytes after it; these are a state again, and hold the end after it
pub record Called (e : End) (a : Action) (clock : ℕ) (draws out out' s s' : List ℕ) (answer : Answer) : Type 0 where
  pub answered : answer ≡ (gives e a clock draws out).answer
  pub output : out' ≡ leaves e a clock draws out
  pub written : s' ≡ after (gives e a clock draws out) s
  pub kept : is_state s' ≡ true
  pub holds : end_from s' ≡ end_after (gives e a clock draws out) e

-- ---- questions 1 and 2: the first no, 0 where there is none
abbrev pub asked : ℕ → ℕ → ℕ
asked room draws = cond (leb room_needed room) (cond (eqb draws draw_count) 0 2) 1

-- ---- a call: questions 1 and 2, whether the bytes are a state, then the event with its own questions
abbrev pub ready : List ℕ → List ℕ → List ℕ → Bool
ready s draws out = leb room_needed (length out) && (eqb (length draws) draw_count && is_state s)

unfoldable pub call_number : Action → ℕ → List ℕ → List ℕ → List ℕ → ℕ
call_number a clock draws out s =
    cond (leb room_needed (length out))
    (cond (eqb (length draws) draw_count) (cond (is_state s) (number_of (gives (end_from s) a clock draws out).answer) 3) 2)
    1

unfoldable pub call_state : Action → ℕ → List ℕ → List ℕ → List ℕ → List ℕ
call_state a clock draws out s = cond (ready s draws out) (after (gives (end_from s) a clock draws out) s) s

unfoldable pub call_out : Action → ℕ → List ℕ → List ℕ → List ℕ → List ℕ
call_out a clock draws out s = cond (ready s draws out) (leaves (end_from s) a clock draws out) out

pub record CallIs (a : Action) (clock : ℕ) (draws out out' s s' : List ℕ) (n : ℕ) : Type 0 where
  pub number : n ≡ call_number a clock draws out s
  pub state : s' ≡ call_state a clock draws out s
  pub output : out' ≡ call_out a clock draws out s
  -- bytes that were a state are one again, and hold the end that the event leaves: a list of calls on bytes is a list of events on ends
  pub kept : is_state s ≡ true → is_state s' ≡ true
  pub holds : ready s draws out ≡ true → end_from s' ≡ end_after (gives (end_from s) a clock draws out) (end_from s)
