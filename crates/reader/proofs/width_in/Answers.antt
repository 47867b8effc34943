use mathlib.Core.Path.{ap, ◌∙◌}
use Rattle.message.specs.Kind.{number_width}
use Rattle.reader.proofs.width_in.Goals as goal

-- `reader::width_in` meets its contract: the width of the kind that the first byte is.
pub returns : goal.returns
returns c = record { width = c.number_width.ensures.value ∙ ap number_width c.byte_at.ensures.there; widest = c.number_width.ensures.upper_bound }
