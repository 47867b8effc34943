use mathlib.Core.Path.{refl}
use Rattle.layout.proofs.PutLaws.{puts-next}
use Rattle.lent_display.specs.Bytes.{four_bytes}
use Rattle.lent_display.proofs.put_four.Goals as goal

-- `lent_display::put_four` meets its contract.
pub returns : goal.returns
unfolding four_bytes
returns c =
    let tag = c.put1.ensures in
    let trail = c.put2.ensures in
    let lead = c.put2-2.ensures in
    let set = c.put8.ensures in record { puts = puts-next (puts-next (puts-next tag.puts trail.puts refl) lead.puts refl) set.puts refl; four_fit = (((tag.fits, trail.fits), lead.fits), set.fits) }
