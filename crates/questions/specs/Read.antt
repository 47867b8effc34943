-- The reader's verdict beside an event.
use Rattle.std.specs.Prelude.{◌≡◌, ℕ, List}
use Rattle.message.specs.declared.Verdict.{Verdict}
use Rattle.message.specs.Question.{refusal_of, read_refusal}
use Rattle.end.specs.declared.Event.{Event}
use Rattle.end.specs.declared.Event.TheVariants.{Moves, Send, Arrival, Fire, Report, Fetch, Announce}

-- the verdict is the reader's on the bytes of an arrival; other events have no bytes, and their verdict is not looked at
abbrev pub ReadAs : Event → Verdict → List ℕ → Type 0
ReadAs (Moves m) verdict bytes = Unit {0}
ReadAs Send verdict bytes = Unit {0}
ReadAs Arrival verdict bytes = refusal_of verdict ≡ read_refusal bytes
ReadAs Fire verdict bytes = Unit {0}
ReadAs Report verdict bytes = Unit {0}
ReadAs (Fetch name) verdict bytes = Unit {0}
ReadAs Announce verdict bytes = Unit {0}
