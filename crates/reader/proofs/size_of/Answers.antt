use Prim.Native.Nat.{◌+◌, ◌*◌}
use Rattle.message.specs.Entry.{cue_width, echo_width}
use Rattle.reader.proofs.size_of.Goals as goal

-- `reader::size_of` meets its contract: the lengths of the four sections.
pub returns : goal.returns
returns c =
    let counts = c.args.c in
    λ i. 12 + c.entries_long-names.ensures.long i + counts.cues * cue_width + c.entries_long-reports.ensures.long i + counts.echoes * echo_width
