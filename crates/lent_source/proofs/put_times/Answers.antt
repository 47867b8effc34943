use Rattle.lent_source.specs.Source.{times_bytes}
use Rattle.layout.proofs.PutLaws.{puts-next}
use mathlib.Core.Path.{refl}
use Rattle.lent_source.proofs.put_times.Goals as goal

-- `lent_source::put_times` meets its contract.
pub returns : goal.returns
unfolding times_bytes
returns c =
    let tag = c.put1.ensures in
    let a = c.put8.ensures in
    let b = c.put8-2.ensures in
    let n = c.put1-2.ensures in record { puts = puts-next (puts-next (puts-next tag.puts a.puts refl) b.puts refl) n.puts refl; times_fit = (((tag.fits, a.fits), b.fits), n.fits) }
