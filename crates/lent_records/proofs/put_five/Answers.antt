use mathlib.Core.Path.{refl}
use Rattle.layout.proofs.PutLaws.{puts-next}
use Rattle.lent_records.specs.Bytes.{five_bytes}
use Rattle.lent_records.proofs.put_five.Goals as goal

-- `lent_records::put_five` meets its contract: five parts, each at the end of the one before.
pub returns : goal.returns
unfolding five_bytes
returns c =
    let tag = c.put1.ensures in
    let small = c.put1-2.ensures in
    let a = c.put8.ensures in
    let b = c.put8-2.ensures in
    let d = c.put8-3.ensures in record { puts = puts-next (puts-next (puts-next (puts-next tag.puts small.puts refl) a.puts refl) b.puts refl) d.puts refl; five_fit = record { tag_fits = tag.fits; small-fits = small.fits; a_fits = a.fits; b_fits = b.fits; c_fits = d.fits } }
