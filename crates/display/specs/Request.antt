-- What a step of a display puts out. Document 02, P11: "A step puts out RQST of the lowest missing number, or gives Nothing".
use Rattle.std.specs.Prelude.{Option, Some, None, ℕ, [], ◌∷◌}
use Rattle.message.specs.Entry.{as_number}
use Rattle.message.specs.Message.{RQST, Meaning, bytes_of}
use Rattle.end.specs.Answer.{Out, Nothing}
use Rattle.display_window.specs.Window.{none_lost, lowest_missing}
use Rattle.display.specs.declared.Display.{Display}
use Rattle.display.specs.Hear.{Hearing, hearing}

-- the RQST of a number of the sender's, from the display's host at its clock
abbrev pub request_for : Display → ℕ → Meaning
request_for d n = record {
  kind = RQST;
  sender = d.own;
  stamp = d.clock;
  names = record { name = record { source = d.sender; number = as_number n }; host = d.own } ∷ [];
  cues = [];
  reports = [];
  echoes = [];
}

abbrev pub request_if : Option ℕ → Display → Hearing
request_if None d = hearing Nothing none_lost d
request_if (Some n) d = hearing (Out (bytes_of (request_for d n))) none_lost d

unfoldable pub step_of : Display → Hearing
step_of d = request_if (lowest_missing d.window) d
