use Rattle.lent_source.specs.Source.{front_bytes}
use Rattle.layout.proofs.PutLaws.{puts-next}
use mathlib.Core.Path.{refl}
use Rattle.lent_source.proofs.put_front.Goals as goal

-- `lent_source::put_front` meets its contract.
pub returns : goal.returns
unfolding front_bytes
returns c =
    let span = c.put.ensures in
    let missed = c.put4.ensures in
    let pair = c.put-2.ensures in
    let distance = c.put8.ensures in record { puts = puts-next (puts-next (puts-next span.puts missed.puts refl) pair.puts refl) distance.puts refl; front_fits = record { span_fits = span.fits; missed-fits = missed.fits; pair_fits = pair.fits; distance-fits = distance.fits } }
