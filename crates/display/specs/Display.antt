-- A display: its state, when it is sound, and how it is opened. Document 02, P11: "Foyer displays send no cues and follow one sender each, by
-- the simplified PGM of source document 003."
use Rattle.std.specs.Prelude.{Option, ℕ, zero, suc, Bool, not, ◌&&◌, List, [], ◌∷◌}
use Rattle.message.specs.declared.Host.{Host}
use Rattle.message.specs.Entry.{as_host}
use Rattle.message.specs.Question.{Question, ask, first_no, host_in, ticks_in, same_host, verdict_for}
use Rattle.display_window.specs.declared.Window.{Window}
use Rattle.display_window.specs.Parts.{Unstarted}
use Rattle.display_window.specs.Window.{window_sound}
use Rattle.display.specs.declared.Display.{Display}
use Rattle.display.specs.declared.OpenedDisplay.{OpenedDisplay}

-- "two different hosts below 8, its own and its sender's"
abbrev pub hosts_apart : Host → Host → Bool
hosts_apart own sender = host_in own && (host_in sender && not (same_host own sender))

-- "A sound one": its window is, and hosts and clock are in range
unfoldable pub sound_of : Display → Bool
sound_of d = hosts_apart d.own d.sender && (ticks_in d.clock && window_sound d.window)

-- ---- "A display is opened at clock 0 for two different hosts below 8, its own and its sender's, else 12"
abbrev pub fresh : Host → Host → Display
fresh own sender = record { own = own; sender = sender; clock = 0; window = Unstarted }

abbrev pub open_questions : Host → Host → List Question
open_questions own sender = ask (hosts_apart own sender) 12 ∷ []

-- what stands beside a refusal: a fresh display of host 0 that follows host 1
abbrev pub display_for : ℕ → Host → Host → Display
display_for zero own sender = fresh own sender
display_for (suc k) own sender = fresh (as_host 0) (as_host 1)

unfoldable pub opening_of : Host → Host → OpenedDisplay
opening_of own sender =
    let k = first_no (open_questions own sender) in
    record { verdict = verdict_for k; display = display_for k own sender }

-- ---- a part changed
abbrev pub with_clock : Display → ℕ → Display
with_clock d clock = record { own = d.own; sender = d.sender; clock = clock; window = d.window }

abbrev pub with_window : Display → Option Window → Display
with_window d window = record { own = d.own; sender = d.sender; clock = d.clock; window = window }
