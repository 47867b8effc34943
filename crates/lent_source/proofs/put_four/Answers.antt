use Rattle.lent_source.specs.Source.{four_bytes}
use Rattle.layout.proofs.PutLaws.{puts-next}
use mathlib.Core.Path.{refl}
use Rattle.lent_source.proofs.put_four.Goals as goal

-- `lent_source::put_four` meets its contract.
pub returns : goal.returns
unfolding four_bytes
returns c =
    let tag = c.put1.ensures in
    let a = c.put1-2.ensures in
    let b = c.put1-3.ensures in
    let n = c.put2.ensures in record { puts = puts-next (puts-next (puts-next tag.puts a.puts refl) b.puts refl) n.puts refl; four_fit = (((tag.fits, a.fits), b.fits), n.fits) }
