use mathlib.Core.Path.{refl}
use Rattle.layout.proofs.PutLaws.{puts-next}
use Rattle.lent_records.specs.Bytes.{part_bytes}
use Rattle.lent_records.proofs.put_parts.Goals as goal

-- `lent_records::put_parts` meets its contract: the five numbers, the cue, the quiet time.
pub returns : goal.returns
unfolding part_bytes
returns c = record { puts = puts-next (puts-next c.put_five.ensures.puts c.put_cue.ensures.puts refl) c.put8.ensures.puts refl; parts_fit = record { five_fit = c.put_five.ensures.five_fit; cue-long = c.put_cue.ensures.long; hush_fits = c.put8.ensures.fits } }
