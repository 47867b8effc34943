-- What the functions below the public calls are given and promise: a call is its questions, and then what an event does to a sound display.
use Rattle.std.specs.Prelude.{◌≡◌, Bool, true, cond, List, [], ◌∷◌, ℕ, ◌≤◌, leb}
use Rattle.message.specs.Limit.{room_needed}
use Rattle.message.specs.declared.Host.{Host}
use Rattle.message.specs.declared.CueNumber.{CueNumber}
use Rattle.message.specs.declared.Name.{Name}
use Rattle.message.specs.Message.{Meaning}
use Rattle.message.specs.Question.{ticks_in}
use Rattle.end.specs.Answer.{Did, answer_of}
use Rattle.display_window.specs.Window.{window_sound}
use Rattle.display.specs.declared.Display.{Display}
use Rattle.display.specs.declared.Shown.{Shown}
use Rattle.display.specs.Display.{sound_of}
use Rattle.display.specs.Hear.{Hearing, passed_over, cue_of, announced_of}

-- what an unrefused call gives
abbrev pub shown_of : Hearing → Shown
shown_of h = record { answer = answer_of (Did h.effect); lost = h.lost; display = h.left }

-- the first no, where `own` is that of the event's own questions
abbrev pub first_of : Display → ℕ → ℕ → ℕ → ℕ
first_of d clock room own = cond (leb room_needed room) (cond (sound_of d) (cond (ticks_in clock) (cond (leb d.clock clock) own 5) 4) 3) 1

-- what the questions leave: an output with room, and a sound window
pub record Ready (d : Display) (room : ℕ) : Type 0 where
  pub room_in : room_needed ≤ room
  pub sound : window_sound d.window ≡ true

-- the parts of a message that a display goes by, and a meaning that has them: its kind, its sender, its name, the number of a second name, and
-- its cue
abbrev pub saying : ℕ → Host → Name → CueNumber → List ℕ → Meaning
saying kind sender name lead cue = record {
  kind = kind;
  sender = sender;
  stamp = 0;
  names = record { name = name; host = sender } ∷ record { name = record { source = sender; number = lead }; host = sender } ∷ [];
  cues = cue ∷ [];
  reports = [];
  echoes = [];
}

-- once started: of a message that brings a cue, of one that announces, and of any other
abbrev pub later_of : Bool → Bool → Name → CueNumber → List ℕ → Display → Hearing
later_of cues tells name lead cue d =
    let m = saying 0 name.source name lead cue in
    cond cues (cue_of m name.number.0 d) (cond tells (announced_of m d) (passed_over d))
