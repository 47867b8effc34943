-- The event of a verb is its kind with its cue and its bytes.
use mathlib.Core.Path.{◌≡◌, refl}
use mathlib.Core.List.{List}
use Prim.Native.Nat.{ℕ}
use Rattle.end.specs.declared.Event.{Event}
use Rattle.end.specs.Event.{action_of}
use Rattle.script.specs.declared.Verb.{Verb}
use Rattle.script.specs.declared.Verb.TheVariants as verb
use Rattle.player.specs.Play.{event_for}
use Rattle.player.specs.Promise.{kind_for, cue_for}

whole-event : (v : Verb) (bytes : List ℕ) → action_of (kind_for v) (cue_for v) bytes ≡ event_for v bytes
whole-event verb.Join bytes = refl
whole-event verb.Joined bytes = refl
whole-event verb.Leave bytes = refl
whole-event verb.Left bytes = refl
whole-event verb.Crash bytes = refl
whole-event (verb.Send focus) bytes = refl
whole-event (verb.Hear number) bytes = refl
whole-event verb.Fire bytes = refl
whole-event verb.Report bytes = refl

pub acts : {what : Event} {cue : List ℕ} (v : Verb) (bytes : List ℕ) → what ≡ kind_for v → cue ≡ cue_for v → action_of what cue bytes ≡ event_for v bytes
acts v bytes w c = rw (w, c) (whole-event v bytes)
