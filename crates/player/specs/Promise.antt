-- What the functions promise: that of `play` by the definition of Explain.antt, those of its parts by the call's answer and output.
use Rattle.std.specs.Prelude.{◌≡◌, Bool, cond, List, [], ◌∷◌, ◌++◌, ℕ, ◌*◌, ◌≤◌, length, take, replicate, ltb}
use Rattle.message.specs.Cue.{steps_at}
use Rattle.end.specs.declared.Answer.{Answer}
use Rattle.end.specs.declared.Answer.TheVariants as answer
use Rattle.end.specs.declared.End.{End}
use Rattle.end.specs.declared.Event.{Event}
use Rattle.end.specs.declared.Event.TheVariants as event
use Rattle.end.specs.declared.Move.TheVariants.{Join, Joined, Leave, Left, Crash}
use Rattle.end.specs.declared.Why.{Why}
use Rattle.script.specs.declared.Verb.{Verb}
use Rattle.script.specs.declared.Verb.TheVariants as verb
use Rattle.answers.specs.declared.Shown.TheVariants as shown
use Rattle.store.specs.declared.Store.{Store}
use Rattle.store.specs.Store.{most, room, kept}
use Rattle.player.specs.declared.Played.{Played}
use Rattle.player.specs.Play.{Printed, Bad, Shows, focused}
use Rattle.player.specs.Explain.{explained, played_by}

-- a line was played: `after` are the messages that are kept then
pub record Plays (explains : Bool) (e : End) (v : Verb) (clock : ℕ) (messages : List (List ℕ)) (r : Played) (after : List (List ℕ)) : Type 0 where
  pub printed : r.printed ≡ (played_by explains e v clock messages).printed
  pub left : r.end ≡ (played_by explains e v clock messages).left
  pub kept : after ≡ (played_by explains e v clock messages).messages

-- ---- by the answer of a call and the output that it left

-- what is printed for an answer
unfoldable pub printed_for : Answer → List ℕ → ℕ → Printed
printed_for (answer.Refused question) output count = Shows (shown.Refused question)
printed_for (answer.Out n) output count = cond (ltb count most) (Shows (shown.Out count)) Bad
printed_for (answer.Got name) output count = Shows (shown.Got name (steps_at output 0))
printed_for answer.Done output count = Shows shown.Done
printed_for answer.Ignored output count = Shows shown.Ignored
printed_for answer.Nothing output count = Shows shown.Nothing
printed_for (answer.Clash name) output count = Shows (shown.Clash name)
printed_for (answer.Late name) output count = Shows (shown.Late name (steps_at output 0))
printed_for answer.Exhausted output count = Shows shown.Exhausted

-- the messages then
unfoldable pub messages_for : Answer → List ℕ → List (List ℕ) → List (List ℕ)
messages_for (answer.Refused question) output messages = messages
messages_for (answer.Out n) output messages = cond (ltb (length messages) most) (messages ++ (take n output ∷ [])) messages
messages_for (answer.Got name) output messages = messages
messages_for answer.Done output messages = messages
messages_for answer.Ignored output messages = messages
messages_for answer.Nothing output messages = messages
messages_for (answer.Clash name) output messages = messages
messages_for (answer.Late name) output messages = messages
messages_for answer.Exhausted output messages = messages

-- a message that was put out is in the output
unfoldable pub InOutput : Answer → List ℕ → Type 0
InOutput (answer.Refused question) output = Unit {0}
InOutput (answer.Out n) output = n ≤ length output
InOutput (answer.Got name) output = Unit {0}
InOutput answer.Done output = Unit {0}
InOutput answer.Ignored output = Unit {0}
InOutput answer.Nothing output = Unit {0}
InOutput (answer.Clash name) output = Unit {0}
InOutput (answer.Late name) output = Unit {0}
InOutput answer.Exhausted output = Unit {0}

-- what is told of an answer: what is printed for it, with the reason that was asked for, and the messages that are kept after it
pub record Tells (w : Why) (a : Answer) (output : List ℕ) (before after : Store) (r : Printed) : Type 0 where
  pub printed : r ≡ explained w (printed_for a output before.count)
  pub messages : kept after ≡ messages_for a output (kept before)

-- the size of an output; the messages that are kept have a place each
pub record Shelf (output : List ℕ) (s : Store) : Type 0 where
  pub out-size : length output ≡ room
  pub few : s.count ≤ most

-- ---- the parts of a verb's event: what `event_for` puts together

abbrev pub kind_for : Verb → Event
kind_for verb.Join = event.Moves Join
kind_for verb.Joined = event.Moves Joined
kind_for verb.Leave = event.Moves Leave
kind_for verb.Left = event.Moves Left
kind_for verb.Crash = event.Moves Crash
kind_for (verb.Send focus) = event.Send
kind_for (verb.Hear number) = event.Arrival
kind_for verb.Fire = event.Fire
kind_for verb.Report = event.Report

abbrev pub cue_for : Verb → List ℕ
cue_for verb.Join = replicate 24 0
cue_for verb.Joined = replicate 24 0
cue_for verb.Leave = replicate 24 0
cue_for verb.Left = replicate 24 0
cue_for verb.Crash = replicate 24 0
cue_for (verb.Send focus) = focused focus
cue_for (verb.Hear number) = replicate 24 0
cue_for verb.Fire = replicate 24 0
cue_for verb.Report = replicate 24 0
