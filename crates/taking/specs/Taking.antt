-- What a call takes its event for: the reading that goes with it, the event that it counts as, and which ends take it.
use Rattle.std.specs.Prelude.{ℕ, Bool, true, false, cond, List}
use Rattle.message.specs.declared.Reading.{Reading}
use Rattle.message.specs.declared.Verdict.{Verdict}
use Rattle.message.specs.declared.Verdict.TheVariants as verdict
use Rattle.message.specs.Question.{blank_message, read_of}
use Rattle.end.specs.declared.Status.{Status}
use Rattle.end.specs.declared.Event.{Event}
use Rattle.end.specs.declared.Event.TheVariants.{Moves, Send, Arrival, Fire, Report, Fetch, Announce}
use Rattle.end.specs.State.{is_member}

-- what is read where there are no bytes: nothing is refused
abbrev pub nothing_read : Reading
nothing_read = record { verdict = verdict.Accepted; message = blank_message }

-- of an arrival the reader's answer; other events bring no bytes
abbrev pub reading_for : Event → List ℕ → Reading
reading_for (Moves m) bytes = nothing_read
reading_for Send bytes = nothing_read
reading_for Arrival bytes = read_of bytes
reading_for Fire bytes = nothing_read
reading_for Report bytes = nothing_read
reading_for (Fetch name) bytes = nothing_read
reading_for Announce bytes = nothing_read

-- document 02, P5: no bytes are "taken by a member as a Report event": the event that a call counts as
abbrev pub is_probe : Verdict → Bool
is_probe verdict.Accepted = false
is_probe verdict.Probe = true
is_probe (verdict.Refused k) = false

abbrev pub taken_as : Event → Bool → Event
taken_as what probe = cond probe Report what

-- whether an end that is not crashed takes the event: a move always, the others as a member
abbrev pub takes : Event → Status → Bool
takes (Moves m) status = true
takes Send status = is_member status
takes Arrival status = is_member status
takes Fire status = is_member status
takes Report status = is_member status
takes (Fetch name) status = is_member status
takes Announce status = is_member status
