use mathlib.Core.Path.{◌∙◌}
use Rattle.lent_display.specs.Bytes.{is_window}
use Rattle.lent_display.proofs.is_window.Goals as goal

-- `lent_display::is_window` meets its contract.
pub returns : goal.returns
returns c = c.is_option.ensures ∙ (λ i. is_window (c.read1.ensures i) (c.read2.ensures i) (c.read2-2.ensures i) (c.read8.ensures i))
