use mathlib.Core.Path.{◌∙◌}
use Rattle.lent_display.specs.Bytes.{window_of}
use Rattle.lent_display.proofs.get_window.Goals as goal

-- `lent_display::get_window` meets its contract.
pub returns : goal.returns
returns c = c.option_of.ensures ∙ (λ i. window_of (c.read1.ensures i) (c.read2.ensures i) (c.read2-2.ensures i) (c.read8.ensures i))
