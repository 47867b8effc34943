use mathlib.Core.Path.{refl}
use Rattle.layout.proofs.PutLaws.{puts-next}
use Rattle.lent_end.specs.State.{head_bytes}
use Rattle.lent_end.proofs.put_head.Goals as goal

-- `lent_end::put_head` meets its contract.
pub returns : goal.returns
unfolding head_bytes
returns c =
    let m = c.put2.ensures in
    let host = c.put1.ensures in
    let clock = c.put8.ensures in
    let status = c.put1-2.ensures in
    let next = c.put4.ensures in record { puts = puts-next (puts-next (puts-next (puts-next (puts-next m.puts host.puts refl) c.put_params.ensures.puts refl) clock.puts refl) status.puts refl) next.puts refl; head_fits = record { host-fits = host.fits; params_fit = c.put_params.ensures.params_fit; clock-fits = clock.fits; status-fits = status.fits; next_fits = next.fits } }
