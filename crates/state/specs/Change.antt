-- What a step on one source changes: it is given one source of an end and gives it back, so that nothing else of the end is copied.
use Rattle.message.specs.declared.Host.{Host}
use Rattle.end.specs.declared.Stepped.{Stepped}
use Rattle.end.specs.declared.End.{End}
use Rattle.end.specs.State.{with_source}
use Rattle.state.specs.declared.Change.{Change}

-- the answer of a change, and the end with the source of host h as the change has it
abbrev pub changed : End → Host → Change → Stepped
changed e h c = record { answer = c.answer; end = with_source e h c.source }
