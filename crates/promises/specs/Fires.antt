-- Fire sends the earliest wait that is due, says Nothing exactly where none is, and ends: the statements of the crate `guarantees`, Fires.
use Rattle.std.specs.Prelude.{◌≡◌, List, ℕ, ◌+◌, ◌≤◌, ◌<◌, length}
use Rattle.message.specs.declared.Host.{Host}
use Rattle.end.specs.declared.Params.{Params}
use Rattle.end.specs.declared.Wait.{Wait}
use Rattle.end.specs.Parts.{NoWait, First}
use Rattle.end.specs.declared.End.{End}
use Rattle.end.specs.State.{with_clock}
use Rattle.end.specs.Answer.{Out, Nothing, Did}
use Rattle.end.specs.Fire.{earliest}
use Rattle.end.specs.Event.{Action, event_of}
use Rattle.end.specs.Opening.{opening_of}
use Rattle.guarantees.specs.Calls.{OneCall, after_all}
use Rattle.guarantees.specs.Waits.{IsDue, IsEarliest, due_waits}
use Rattle.guarantees.specs.Fires.{fire, FireTaken, TellsOf, AllOut}

pub record FiresKept : Type 0 where
  -- What Fire chooses is due, and no wait that is due comes before it.
  pub choice_is_earliest : (e : End) (w : Wait) → earliest e 8 ≡ First w → IsEarliest e w
  -- Where it chooses none, none is due.
  pub no_choice_none_due : (e : End) → earliest e 8 ≡ NoWait → (w : Wait) → IsDue e w → ⊥
  -- What goes out is about the earliest wait that is due at the call's clock: an express wait goes out as XPRS, a request as RQST, a reply as
  -- REPL.
  pub out_is_earliest : (e : End) (clock room : ℕ) (draws bytes : List ℕ) → (fire e clock room draws).outcome ≡ Did (Out bytes)
      → (w : Wait) × IsEarliest (with_clock e clock) w × TellsOf e clock w bytes
  -- Nothing is answered only where no wait is due.
  pub nothing_means_none : (e : End) (clock room : ℕ) (draws : List ℕ) → (fire e clock room draws).outcome ≡ Did Nothing → (w : Wait) → IsDue (with_clock e clock) w → ⊥
  -- An unrefused Fire of a member with no wait due answers Nothing and sets the clock, no more.
  pub none_means_nothing : (e : End) (clock room : ℕ) (draws : List ℕ) → FireTaken e clock room draws → ((w : Wait) → IsDue (with_clock e clock) w → ⊥)
      → fire e clock room draws ≡ record { outcome = Did Nothing; left = with_clock e clock }
  -- With a wait due it puts a message out.
  pub due_means_out : (e : End) (clock room : ℕ) (draws : List ℕ) → FireTaken e clock room draws → (w : Wait) → IsDue (with_clock e clock) w
      → (bytes : List ℕ) × ((fire e clock room draws).outcome ≡ Did (Out bytes))
  -- C3 < C1 in every end that an opening gives, refused or not; so C1 is 1 or more.
  pub opened_c3_below_c1 : (h : Host) (p : Params) → (opening_of h p).end.params.c3 < (opening_of h p).end.params.c1
  -- No call changes host or parameters.
  pub host_and_params_stay : (e : End) (a : Action) (clock room : ℕ) (draws : List ℕ)
      → ((event_of e a clock room draws).left.host ≡ e.host) × ((event_of e a clock room draws).left.params ≡ e.params)
  -- Each Fire that puts something out leaves one wait less that is due, where C1 is 1 or more: a request beside an express wait that goes out
  -- stays, and an express wait beside a request that goes out stays too. (A sound state may have C1 = 0; only an opening asks for C3 < C1. Then
  -- a request could be due again at once.)
  pub one_less_due : (e : End) (clock room : ℕ) (draws bytes : List ℕ) → 1 ≤ e.params.c1 → (fire e clock room draws).outcome ≡ Did (Out bytes)
      → due_waits (fire e clock room draws).left + 1 ≡ due_waits (with_clock e clock)
  -- Repeated Fire at one clock ends: at most as many calls put something out as waits were due before the first, and these are at most
  -- two, a request and an express wait, for each of the latest 64 numbers of 8 sources. (A sound state may have C1 = 0; only an opening asks
  -- for C3 < C1. Then a request could be due again at once.)
  pub firing-ends : (e : End) (clock room : ℕ) (calls : List (List ℕ)) → 1 ≤ e.params.c1 → AllOut clock room e calls
      → (length calls ≤ due_waits (with_clock e clock)) × (due_waits (with_clock e clock) ≤ 1024)
  -- So after any calls on an end that was opened, at most 1,024 calls of Fire in a row at one clock put something out; so the 1,025th
  -- unrefused Fire of a member at one clock, at the latest, is Nothing.
  pub opened_firing_ends : (me : Host) (p : Params) (before : List OneCall) (clock room : ℕ) (calls : List (List ℕ))
      → AllOut clock room (after_all (opening_of me p).end before) calls → length calls ≤ 1024
