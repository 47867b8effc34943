use Rattle.lent_source.specs.Source.{one_bytes}
use Rattle.layout.proofs.PutLaws.{puts-next}
use mathlib.Core.Path.{refl}
use Rattle.lent_source.proofs.put_one.Goals as goal

-- `lent_source::put_one` meets its contract.
pub returns : goal.returns
unfolding one_bytes
returns c =
    let tag = c.put1.ensures in
    let n = c.put2.ensures in record { puts = puts-next tag.puts n.puts refl; one_fits = (tag.fits, n.fits) }
