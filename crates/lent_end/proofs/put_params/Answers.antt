use mathlib.Core.Path.{refl}
use Rattle.layout.proofs.PutLaws.{puts-next}
use Rattle.lent_end.specs.State.{params_bytes}
use Rattle.lent_end.proofs.put_params.Goals as goal

-- `lent_end::put_params` meets its contract.
pub returns : goal.returns
unfolding params_bytes
returns c =
    let c1 = c.put8.ensures in
    let c2 = c.put8-2.ensures in
    let c3 = c.put8-3.ensures in
    let d1 = c.put8-4.ensures in
    let d2 = c.put8-5.ensures in
    let d3 = c.put8-6.ensures in
    let x = c.put8-7.ensures in record { puts = puts-next (puts-next (puts-next (puts-next (puts-next (puts-next c1.puts c2.puts refl) c3.puts refl) d1.puts refl) d2.puts refl) d3.puts refl) x.puts refl; params_fit = record { c1-fits = c1.fits; c2-fits = c2.fits; c3-fits = c3.fits; d1-fits = d1.fits; d2-fits = d2.fits; d3-fits = d3.fits; express-fits = x.fits } }
