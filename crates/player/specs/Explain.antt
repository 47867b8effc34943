-- The program "why": it plays the scripts of house and prints house's lines, with the reason's words after each "ignored". Document 02, P3:
-- "Projection staff see a cue pass a controller by and call us."
use Rattle.std.specs.Prelude.{◌≡◌, ℕ, Bool, true, cond, List, [], get_or}
use Rattle.end.specs.declared.End.{End}
use Rattle.end.specs.declared.Why.{Why}
use Rattle.end.specs.declared.Why.TheVariants as why
use Rattle.end.specs.Why.{why_of}
use Rattle.script.specs.declared.Verb.{Verb}
use Rattle.answers.specs.declared.Shown.{Shown}
use Rattle.answers.specs.declared.Shown.TheVariants as shown
use Rattle.player.specs.Play.{Printed, Bad, Shows, event_for, heard_number, Turn, played_of}

-- "ignored", and the reason where there is one
abbrev pub ignored_for : Why → Shown
ignored_for (why.Refused question) = shown.Ignored
ignored_for (why.Because reason) = shown.IgnoredFor reason
ignored_for why.NoReason = shown.Ignored

-- the other answers are shown as they are
abbrev pub with_reason : Why → Shown → Shown
with_reason w (shown.Out message) = shown.Out message
with_reason w (shown.Got name focus) = shown.Got name focus
with_reason w shown.Done = shown.Done
with_reason w shown.Ignored = ignored_for w
with_reason w (shown.IgnoredFor reason) = shown.IgnoredFor reason
with_reason w shown.Nothing = shown.Nothing
with_reason w (shown.Refused question) = shown.Refused question
with_reason w (shown.Clash name) = shown.Clash name
with_reason w (shown.Late name focus) = shown.Late name focus
with_reason w shown.Exhausted = shown.Exhausted

abbrev pub explained : Why → Printed → Printed
explained w Bad = Bad
explained w (Shows a) = Shows (with_reason w a)

-- why the event of a line would be ignored: asked of the end as it is before the event
abbrev pub why_for : End → Verb → ℕ → List (List ℕ) → Why
why_for e v clock messages = why_of e clock (event_for v (get_or messages (heard_number v) []))

-- a line played by a program that explains, or by one that does not
abbrev pub played_by : Bool → End → Verb → ℕ → List (List ℕ) → Turn
played_by explains e v clock messages =
    let t = played_of e v clock messages in
    record { printed = cond explains (explained (why_for e v clock messages) t.printed) t.printed; left = t.left; messages = t.messages }

-- a reason is named exactly where an event is Ignored (`ReasonExactly` of the crate end), so "ignored" is never printed without one
abbrev pub IgnoredHasReason : Type 0
IgnoredHasReason = (e : End) (v : Verb) (clock : ℕ) (messages : List (List ℕ)) → (played_by true e v clock messages).printed ≡ Shows shown.Ignored → ⊥
