-- Sound stays sound, as statements; proofs/Stays.antt proves each. `sound_of` is the test of question 3.
use Rattle.std.specs.Prelude.{◌≡◌, true, List, ℕ}
use Rattle.message.specs.declared.Host.{Host}
use Rattle.end.specs.declared.Params.{Params}
use Rattle.end.specs.declared.End.{End}
use Rattle.end.specs.Round.{Drawn}
use Rattle.end.specs.Sound.{sound_of}
use Rattle.end.specs.Event.{Action, event_of}
use Rattle.end.specs.Opening.{opening_of}
use Rattle.end.specs.Run.{CueArray}

-- Every opening, refused or not, gives a sound state, whatever host and parameters it is given.
abbrev pub OpensSound : Type 0
OpensSound = (h : Host) (p : Params) → sound_of (opening_of h p).end ≡ true

-- Every call on a sound state leaves a sound state: every event, with any bytes that arrive, refused or not. Of its arguments it takes
-- only what their declared types give: draws are numbers of 16 bits, and a cue that is sent has 24 bytes.
abbrev pub StaysSound : Type 0
StaysSound = (e : End) (a : Action) (clock room : ℕ) (draws : List ℕ) → Drawn draws → CueArray a
    → sound_of e ≡ true → sound_of (event_of e a clock room draws).left ≡ true
