-- What a line of a script does on the end that it names. Document 01, "Cases", the program "house".
use Rattle.std.specs.Prelude.{ℕ, Bool, true, cond, List, [], ◌∷◌, ◌++◌, length, get_or, replicate, ℤ, pos, ltb, Option, Some, None}
use Rattle.message.specs.Cue.{cue_with, fields_of}
use Rattle.end.specs.declared.End.{End}
use Rattle.end.specs.Answer.{Out, Got, Done, Ignored, Nothing, Clash, Late, Exhausted}
use Rattle.end.specs.Event.{Action, Moves, Send, Arrival, Else, Fire, Report, event_of}
use Rattle.end.specs.declared.Move.TheVariants.{Join, Joined, Leave, Left, Crash}
use Rattle.end.specs.Answer.{Outcome, Refused, Did, Result}
use Rattle.script.specs.declared.Verb.{Verb}
use Rattle.script.specs.declared.Verb.TheVariants as verb
use Rattle.answers.specs.declared.Shown.{Shown}
use Rattle.answers.specs.declared.Shown.TheVariants as shown
use Rattle.store.specs.Store.{most, room}

-- "draws 0": there are 64
abbrev pub draws : List ℕ
draws = replicate 64 0

-- "other cue bytes 0"
abbrev pub focused : ℤ → List ℕ
focused focus = cue_with (record { focus = focus; zoom = pos 0; sideways = pos 0; upright = pos 0; lamp = 0 })

-- the event of a verb; `bytes` are those of the message that is heard
abbrev pub event_for : Verb → List ℕ → Action
event_for verb.Join bytes = Moves Join
event_for verb.Joined bytes = Moves Joined
event_for verb.Leave bytes = Moves Leave
event_for verb.Left bytes = Moves Left
event_for verb.Crash bytes = Moves Crash
event_for (verb.Send focus) bytes = Send (focused focus)
event_for (verb.Hear number) bytes = Arrival bytes
event_for verb.Fire bytes = Else Fire
event_for verb.Report bytes = Else Report

-- the number after "hear"; 0 after another verb, where it says nothing
abbrev pub heard_number : Verb → ℕ
heard_number verb.Join = 0
heard_number verb.Joined = 0
heard_number verb.Leave = 0
heard_number verb.Left = 0
heard_number verb.Crash = 0
heard_number (verb.Send focus) = 0
heard_number (verb.Hear number) = number
heard_number verb.Fire = 0
heard_number verb.Report = 0

-- "an unknown message number": one that is not below the number of messages so far
abbrev pub is_known : Verb → ℕ → Bool
is_known verb.Join count = true
is_known verb.Joined count = true
is_known verb.Leave count = true
is_known verb.Left count = true
is_known verb.Crash count = true
is_known (verb.Send focus) count = true
is_known (verb.Hear number) count = ltb number count
is_known verb.Fire count = true
is_known verb.Report count = true

-- what is printed for a line: its answer, or "bad"
abbrev pub Printed : Type 0
Printed = Option Shown

pattern abbrev pub Bad : Printed
Bad = None

pattern abbrev pub Shows : Shown → Printed
Shows a = Some a

-- what a line gives: what is printed for it, the end that is left, and the messages from then on
pub record Turn : Type 0 where
  pub printed : Printed
  pub left : End
  pub messages : List (List ℕ)

abbrev pub shows : Shown → End → List (List ℕ) → Turn
shows a e messages = record { printed = Shows a; left = e; messages = messages }

abbrev pub stops : End → List (List ℕ) → Turn
stops e messages = record { printed = Bad; left = e; messages = messages }

-- "after out the message number, after got source, cue number and focus, after "refused" the number"; messages are "numbered from 0
-- as put out", and at a 65th it "prints "bad" and stops"; a clash (document 02, P4) has its name, and a late cue (P9) what got has
unfoldable pub turn_of : Outcome → End → List (List ℕ) → Turn
turn_of (Refused question) e messages = shows (shown.Refused question) e messages
turn_of (Did (Out bytes)) e messages =
    cond (ltb (length messages) most) (shows (shown.Out (length messages)) e (messages ++ (bytes ∷ []))) (stops e messages)
turn_of (Did (Got name cue)) e messages = shows (shown.Got name (fields_of cue).focus) e messages
turn_of (Did Done) e messages = shows shown.Done e messages
turn_of (Did Ignored) e messages = shows shown.Ignored e messages
turn_of (Did Nothing) e messages = shows shown.Nothing e messages
turn_of (Did (Clash name)) e messages = shows (shown.Clash name) e messages
turn_of (Did (Late name cue)) e messages = shows (shown.Late name (fields_of cue).focus) e messages
turn_of (Did Exhausted) e messages = shows shown.Exhausted e messages

-- the call that a line makes, with an output of 128 bytes
abbrev pub result_of : End → Verb → ℕ → List (List ℕ) → Result
result_of e v clock messages = event_of e (event_for v (get_or messages (heard_number v) [])) clock room draws

-- a line with this verb and clock, played on the end that it names
unfoldable pub played_of : End → Verb → ℕ → List (List ℕ) → Turn
played_of e v clock messages =
    cond (is_known v (length messages))
    (turn_of (result_of e v clock messages).outcome (result_of e v clock messages).left messages)
    (stops e messages)
