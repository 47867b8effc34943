-- Fire against the next due time, as statements; proofs/Due.antt proves each. A host that sleeps until then misses nothing, and one that fires
-- then puts something out.
use Rattle.std.specs.Prelude.{◌≡◌, true, List, ℕ, ◌≤◌, ◌<◌, length}
use Rattle.message.specs.Limit.{room_needed, ticks_limit}
use Rattle.end.specs.declared.Wait.{Wait}
use Rattle.end.specs.declared.End.{End}
use Rattle.end.specs.State.{is_member, with_clock}
use Rattle.end.specs.Round.{draw_count}
use Rattle.end.specs.Sound.{sound_of}
use Rattle.end.specs.Answer.{Out, Nothing, Did}
use Rattle.end.specs.Event.{Else, Fire}
use Rattle.guarantees.specs.Fires.{fire, FireTaken}
use Rattle.guarantees.specs.Waits.{waits_at, Among}
use Rattle.end_due.specs.Due.{never, next_due}
use Rattle.lent_answer.specs.Number.{of_kind, OUT, NOTHING}
use Rattle.lent_end.specs.State.{end_from, is_state, end_bytes}
use Rattle.lent_calls.specs.Call.{call_number, call_state, call_out}
use Rattle.lent_looks.specs.Looks.{look, due_in}

-- "The least due time of all waits, 2^64−1 where nothing waits", of any end: no wait of the eight sources is due before it, and it is 2^64−1 or the due
-- time of one of them.
pub record LeastOfAll (e : End) : Type 0 where
  pub least : (w : Wait) → w.name.source.0 < 8 → Among w (waits_at e w.name) → next_due e ≤ w.due
  pub one : (next_due e ≡ never → ⊥) → (w : Wait) × (w.name.source.0 < 8) × Among w (waits_at e w.name) × (w.due ≡ next_due e)

abbrev pub DueIsLeast : Type 0
DueIsLeast = (e : End) → LeastOfAll e

-- before it Fire answers Nothing, and the end is the same but for its clock; at it and after it a message goes out
pub record ByDue (e : End) (clock room : ℕ) (draws : List ℕ) : Type 0 where
  pub before : clock < next_due e → fire e clock room draws ≡ record { outcome = Did Nothing; left = with_clock e clock }
  pub after : next_due e ≤ clock → (bytes : List ℕ) × ((fire e clock room draws).outcome ≡ Did (Out bytes))

-- Of every Fire of a member that no question refuses, so on a sound state.
abbrev pub FireByDue : Type 0
FireByDue = (e : End) (clock room : ℕ) (draws : List ℕ) → FireTaken e clock room draws → ByDue e clock room draws

-- ---- the same of lent bytes: cuelink_fire against cuelink_due

-- the bytes are the state of a sound member, output and draws are as they must be, and the clock is one and not below the state's
pub record FireLent (s : List ℕ) (clock : ℕ) (draws output : List ℕ) : Type 0 where
  pub state : is_state s ≡ true
  pub sound : sound_of (end_from s) ≡ true
  pub member : is_member (end_from s).status ≡ true
  pub room : room_needed ≤ length output
  pub drawn : length draws ≡ draw_count
  pub later : (end_from s).clock ≤ clock
  pub ticks : clock < ticks_limit

-- before it the number is NOTHING's, no byte of the output changes, and of the state the clock's alone; from it on it is an OUT with its length
pub record LentByDue (s : List ℕ) (clock : ℕ) (draws output : List ℕ) : Type 0 where
  pub before : clock < look due_in s
      → (call_number (Else Fire) clock draws output s ≡ of_kind NOTHING 0)
      × (call_state (Else Fire) clock draws output s ≡ end_bytes (with_clock (end_from s) clock))
      × (call_out (Else Fire) clock draws output s ≡ output)
  pub after : look due_in s ≤ clock → (n : ℕ) × (n ≤ 127) × (call_number (Else Fire) clock draws output s ≡ of_kind OUT n)

abbrev pub LentFireByDue : Type 0
LentFireByDue = (s : List ℕ) (clock : ℕ) (draws output : List ℕ) → FireLent s clock draws output → LentByDue s clock draws output
