-- Sound stays sound, clocks never fall, and what goes out is right: the statements of the crate `invariants`.
use Rattle.std.specs.Prelude.{◌≡◌, true, List, ℕ, ◌<◌, ◌≤◌}
use Rattle.message.specs.declared.Host.{Host}
use Rattle.end.specs.declared.Params.{Params}
use Rattle.end.specs.declared.End.{End}
use Rattle.end.specs.Round.{Drawn}
use Rattle.end.specs.Sound.{sound_of}
use Rattle.end.specs.Event.{Action, event_of}
use Rattle.end.specs.Opening.{opening_of}
use Rattle.end.specs.Run.{CueArray, Call, World, seen, Fresh}
use Rattle.end.specs.Answer.{Out, Did}
use Rattle.invariants.specs.Lists.{through, Declared, NoneAs3}
use Rattle.end.specs.Parts.{At}
use Rattle.end.specs.State.{source_at}
use Rattle.invariants.specs.Outputs.{RightOut}

pub record StatesKept : Type 0 where
  -- Every opening, refused or not, gives a sound state, whatever host and parameters it is given.
  pub opens-sound : (h : Host) (p : Params) → sound_of (opening_of h p).end ≡ true
  -- Every call on a sound state leaves a sound state: every event, with any bytes that arrive, refused or not. Of its arguments it takes
  -- only what their declared types give: draws are numbers of 16 bits, and a cue that is sent has 24 bytes.
  pub stays-sound : (e : End) (a : Action) (clock room : ℕ) (draws : List ℕ) → Drawn draws → CueArray a
      → sound_of e ≡ true → sound_of (event_of e a clock room draws).left ≡ true
  -- After every list of calls on eight ends from openings that were not refused each of these is sound.
  pub ends_stay_sound : (w : World) → Fresh w → (cs : List Call) → Declared cs → (h : ℕ) → h < 8 → sound_of ((through w cs).ends h) ≡ true
  -- In every list of calls on ends from openings that were not refused no call is refused as 3.
  pub never_refused_as_3 : (w : World) → Fresh w → (cs : List Call) → Declared cs → NoneAs3 (seen w cs)
  -- An end's clock never falls: every call, refused or not, on any state, leaves the clock that was there or a later one.
  pub clock_never_falls : (e : End) (a : Action) (clock room : ℕ) (draws : List ℕ) → e.clock ≤ (event_of e a clock room draws).left.clock
  -- And so over any list of calls on any ends, for each of them.
  pub clocks_never_fall : (w : World) (cs : List Call) (h : ℕ) → (w.ends h).clock ≤ ((through w cs).ends h).clock
  -- In a sound state no stamp was heard later than the clock, whichever of the eight hosts it was heard from.
  pub heard_by_now : (e : End) → sound_of e ≡ true → (h : Host) → h.0 < 8 → (stamp when reported : ℕ)
      → (source_at e h).heard ≡ At stamp when reported → when ≤ e.clock
  -- So heard times never exceed the clock: after every list of calls on eight ends from openings that were not refused, for each of these
  -- and each host that it may have heard.
  pub never_heard_later : (w : World) → Fresh w → (cs : List Call) → Declared cs → (k : ℕ) → k < 8 → (h : Host) → h.0 < 8
      → (stamp when reported : ℕ) → (source_at ((through w cs).ends k) h).heard ≡ At stamp when reported → when ≤ ((through w cs).ends k).clock
  -- Every Out of every call is right, on any state: one that is not sound is refused and puts nothing out. A cue that is sent has the 24
  -- bytes of its declared type.
  pub goes_out_right : (e : End) (a : Action) (clock room : ℕ) (draws bytes : List ℕ) → CueArray a
      → (event_of e a clock room draws).outcome ≡ Did (Out bytes) → RightOut e a clock bytes
