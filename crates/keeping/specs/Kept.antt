-- The line that a call leaves in a run's record, as the functions here have it: by the declared event, and by the answer and the output of the
-- call. Which lines these are is `lines_of` of the crate record, what an answer and an output say is `read_off` of the crate end.
use Rattle.std.specs.Prelude.{List, [], ◌∷◌, ℕ, Option, Some, None}
use Rattle.message.specs.declared.Host.{Host}
use Rattle.end.specs.declared.Event.{Event}
use Rattle.end.specs.declared.Answer.{Answer}
use Rattle.end.specs.Answer.{read_off}
use Rattle.end.specs.Event.{action_of}
use Rattle.record.specs.declared.Said.{Said}
use Rattle.record.specs.declared.Said.TheVariants.{Malformed, Moved, Sent, Got}
use Rattle.record.specs.declared.Line.{Line}
use Rattle.record.specs.Kept.{lines_of}

-- a call leaves one line or none, and never a malformed one
abbrev pub kept_by : Said → Line → List Line
kept_by Malformed l = []
kept_by (Moved m h) l = l ∷ []
kept_by (Sent h n) l = l ∷ []
kept_by (Got h name) l = l ∷ []

abbrev pub kept : Option Line → List Line
kept None = []
kept (Some l) = kept_by l.said l

-- what a call leaves: its host, its event, the cue of a Send, its answer and its output
unfoldable pub kept_of : Host → Event → List ℕ → Answer → List ℕ → List Line
kept_of h what cue a output = lines_of h.0 (action_of what cue []) (read_off a output)

-- no line is longer, with its line feed, whatever its host and its number: "got 255 255 65535 " and 48 digits
abbrev pub widest : ℕ
widest = 67
