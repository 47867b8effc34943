-- The reason call: an event that there is not, bytes that are no state, and what the call on the end says.
use mathlib.Core.Path.{◌≡◌, sym, ◌∙◌}
use Prim.Native.Nat.{ℕ, ◌-◌, ◌≤◌, ◌<◌}
use native.Mathlib.Omega.{arith}
use mathlib.Core.Bool.{Bool, true, false}
use mathlib.Core.List.{List, [], ◌∷◌}
use lib.ListN.{get_or-eq_default}
use borrow.Author.Tests.{le-leb, lt-leb, le-ltb}
use Rattle.message.specs.declared.Name.{Name}
use Rattle.end.specs.declared.Move.TheVariants.{Join, Joined, Leave, Left, Crash}
use Rattle.end.specs.declared.Event.{Event}
use Rattle.end.specs.declared.Event.TheVariants.{Send, Arrival, Fire, Report, Fetch, Announce}
use Rattle.end.specs.declared.End.{End}
use Rattle.end.specs.Event.{action_of}
use Rattle.end.specs.Why.{why_of}
use Rattle.lent_answer.specs.Number.{of_kind, NO-EVENT}
use Rattle.lent_end.specs.State.{end_from, is_state}
use Rattle.lent_calls.specs.Arguments.{name_of, cue_of, move_of, event_of}
use Rattle.lent_calls.specs.Reason.{why_number, reason_of}

module _ (clock n source number : ℕ) (bytes s : List ℕ) where
  pub no_event : 10 < n → of_kind NO-EVENT 0 ≡ reason_of clock n source number bytes s
  unfolding reason_of
  no_event h = rw (lt-leb n 10 h)

  module _ (h : n ≤ 10) (ok : Bool) (t : ok ≡ is_state s) where
    pub no_state : (r : ℕ) → r ≡ 3 → ok ≡ false → r ≡ reason_of clock n source number bytes s
    unfolding reason_of
    no_state r e f =
        let no : is_state s ≡ false = sym t ∙ f in
        rw (le-leb n 10 h, no) e

    pub on_a_state : (r : ℕ) → ok ≡ true → r ≡ why_number (why_of (end_from s) clock (action_of (event_of n (name_of source number)) (cue_of bytes) bytes))
        → r ≡ reason_of clock n source number bytes s
    unfolding reason_of
    on_a_state r f e =
        let yes : is_state s ≡ true = sym t ∙ f in
        rw (le-leb n 10 h, yes) e

-- the reason of equal ends, events and cues
pub same_why : {e f : End} {v w : Event} {b d : List ℕ} (clock : ℕ) (bytes : List ℕ) → e ≡ f → v ≡ w → b ≡ d
    → why_of e clock (action_of v b bytes) ≡ why_of f clock (action_of w d bytes)
same_why clock bytes p q r = λ i. why_of (p i) clock (action_of (q i) (r i) bytes)

-- the last move and the last event
pub last-move : (n : ℕ) → 4 ≤ n → Crash ≡ move_of n
last-move n h = sym (get_or-eq_default (Join ∷ Joined ∷ Leave ∷ Left ∷ []) Crash {n = n} h)

pub last-event : (n : ℕ) (name : Name) → 10 ≤ n → Announce ≡ event_of n name
last-event n name h =
    let not_move : 5 ≤ n = omega arith in
    let after : 5 ≤ n - 5 = omega arith in
    rw (le-ltb n 5 not_move) (sym (get_or-eq_default (Send ∷ Arrival ∷ Fire ∷ Report ∷ Fetch name ∷ []) Announce {n = n - 5} after))
