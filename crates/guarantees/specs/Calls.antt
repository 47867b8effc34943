-- Calls on one end, one after the other.
use Rattle.std.specs.Prelude.{List, [], ◌∷◌, ℕ}
use Rattle.end.specs.declared.End.{End}
use Rattle.end.specs.declared.Moment.{Moment}
use Rattle.end.specs.State.{moment_of, with_clock}
use Rattle.end.specs.Event.{Action, event_of}

-- a call of any event, refused or not, with its clock, the length of its output and its draws
pub record OneCall : Type 0 where
  pub action : Action
  pub clock : ℕ
  pub room : ℕ
  pub draws : List ℕ

-- the moment of a call at a clock: the end's host and parameters, and that clock
abbrev pub moment_at : End → ℕ → Moment
moment_at e clock = moment_of (with_clock e clock)

-- the end that it leaves
abbrev pub after : End → OneCall → End
after e c = (event_of e c.action c.clock c.room c.draws).left

-- the end that a list of them leaves: one end's view of `through`, in the crate invariants
abbrev pub after_all : End → List OneCall → End
after_all e [] = e
after_all e (c ∷ cs) = after_all (after e c) cs
