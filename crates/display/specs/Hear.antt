-- What a display does with a message. Document 02, P11. Which numbers that loses is said by the crate display_window.
use Rattle.std.specs.Prelude.{Option, ℕ, ◌-◌, Bool, cond, ◌&&◌, ◌||◌, get_or, eqb}
use Rattle.message.specs.Entry.{blank_name}
use Rattle.message.specs.Message.{DATA, REPL, ANNC, Meaning, Datagram, Probe, Saying}
use Rattle.message.specs.Question.{same_host}
use Rattle.end.specs.Messages.{message_name, message_cue}
use Rattle.end.specs.Answer.{Effect, Got, Done, Ignored}
use Rattle.display_window.specs.declared.Window.{Window}
use Rattle.display_window.specs.Parts.{Unstarted, Started}
use Rattle.display_window.specs.declared.Lost.{Lost}
use Rattle.display_window.specs.Window.{raised, is_new, start_at, taken, none_lost, lost_by}
use Rattle.display.specs.declared.Display.{Display}
use Rattle.display.specs.Display.{with_window}

-- its sender's DATA; "any REPL of the sender's cue", whoever sent it; its sender's kind 24
abbrev pub is_original : Display → Meaning → Bool
is_original d m = eqb m.kind DATA && same_host m.sender d.sender

abbrev pub is_repair : Display → Meaning → Bool
is_repair d m = eqb m.kind REPL && same_host (message_name m).source d.sender

abbrev pub is_announced : Display → Meaning → Bool
is_announced d m = eqb m.kind ANNC && same_host m.sender d.sender

-- the two numbers of kind 24
abbrev pub trail_in : Meaning → ℕ
trail_in m = (message_name m).number.0

abbrev pub lead_in : Meaning → ℕ
lead_in m = (get_or m.names 1 blank_name).name.number.0

-- what a message does: the answer, the numbers lost, and the display that it leaves
pub record Hearing : Type 0 where
  pub effect : Effect
  pub lost : Lost
  pub left : Display

abbrev pub hearing : Effect → Lost → Display → Hearing
hearing effect lost d = record { effect = effect; lost = lost; left = d }

-- "all else Ignored"
abbrev pub passed_over : Display → Hearing
passed_over d = hearing Ignored none_lost d

-- a cue, once started: "A newly received cue is Got"
abbrev pub cue_of : Meaning → ℕ → Display → Hearing
cue_of m n d =
    cond (is_new d.window n) (hearing (Got (message_name m) (message_cue m)) (lost_by (n - 63) d.window) (with_window d (taken n d.window))) (passed_over d)

-- "its sender's kind 24 once started Done"
abbrev pub announced_of : Meaning → Display → Hearing
announced_of m d = hearing Done (lost_by (trail_in m) d.window) (with_window d (raised (trail_in m) (lead_in m) d.window))

unfoldable pub heard_in : Option Window → Meaning → Display → Hearing
heard_in Unstarted m d =
    cond (is_original d m) (hearing (Got (message_name m) (message_cue m)) none_lost (with_window d (start_at (message_name m).number.0))) (passed_over d)
heard_in (Started w) m d =
    cond (is_original d m || is_repair d m) (cue_of m (message_name m).number.0 d) (cond (is_announced d m) (announced_of m d) (passed_over d))

-- a probe is passed over
abbrev pub hear_of : Datagram Meaning → Display → Hearing
hear_of Probe d = passed_over d
hear_of (Saying m) d = heard_in d.window m d
