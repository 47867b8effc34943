-- Clocks, as statements; proofs/Clocks.antt and proofs/Lists.antt prove each.
use Rattle.std.specs.Prelude.{◌≡◌, true, List, ℕ, ◌≤◌, ◌<◌}
use Rattle.message.specs.declared.Host.{Host}
use Rattle.end.specs.Parts.{At}
use Rattle.end.specs.declared.End.{End}
use Rattle.end.specs.State.{source_at}
use Rattle.end.specs.Sound.{sound_of}
use Rattle.end.specs.Event.{Action, event_of}
use Rattle.end.specs.Run.{Call, World, Fresh}
use Rattle.invariants.specs.Lists.{through, Declared}

-- An end's clock never falls: every call, refused or not, on any state, leaves the clock that was there or a later one.
abbrev pub ClockNeverFalls : Type 0
ClockNeverFalls = (e : End) (a : Action) (clock room : ℕ) (draws : List ℕ) → e.clock ≤ (event_of e a clock room draws).left.clock

-- And so over any list of calls on any ends, for each of them.
abbrev pub ClocksNeverFall : Type 0
ClocksNeverFall = (w : World) (cs : List Call) (h : ℕ) → (w.ends h).clock ≤ ((through w cs).ends h).clock

-- In a sound state no stamp was heard later than the clock, whichever of the eight hosts it was heard from.
abbrev pub HeardByNow : Type 0
HeardByNow = (e : End) → sound_of e ≡ true → (h : Host) → h.0 < 8 → (stamp when reported : ℕ) → (source_at e h).heard ≡ At stamp when reported → when ≤ e.clock

-- So heard times never exceed the clock: after every list of calls on eight ends from openings that were not refused, for each of these
-- and each host that it may have heard.
abbrev pub NeverHeardLater : Type 0
NeverHeardLater = (w : World) → Fresh w → (cs : List Call) → Declared cs → (k : ℕ) → k < 8 → (h : Host) → h.0 < 8 → (stamp when reported : ℕ)
    → (source_at ((through w cs).ends k) h).heard ≡ At stamp when reported → when ≤ ((through w cs).ends k).clock
