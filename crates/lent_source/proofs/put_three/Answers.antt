use Rattle.lent_source.specs.Source.{three_bytes}
use Rattle.layout.proofs.PutLaws.{puts-next}
use mathlib.Core.Path.{refl}
use Rattle.lent_source.proofs.put_three.Goals as goal

-- `lent_source::put_three` meets its contract.
pub returns : goal.returns
unfolding three_bytes
returns c =
    let tag = c.put1.ensures in
    let first = c.put2.ensures in
    let last = c.put2-2.ensures in record { puts = puts-next (puts-next tag.puts first.puts refl) last.puts refl; three_fit = ((tag.fits, first.fits), last.fits) }
