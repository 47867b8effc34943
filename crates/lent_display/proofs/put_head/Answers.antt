use mathlib.Core.Path.{refl}
use Rattle.layout.proofs.PutLaws.{puts-next}
use Rattle.lent_display.specs.Bytes.{head_bytes}
use Rattle.lent_display.proofs.put_head.Goals as goal

-- `lent_display::put_head` meets its contract.
pub returns : goal.returns
unfolding head_bytes
returns c =
    let mark = c.put2.ensures in
    let own = c.put1.ensures in
    let sender = c.put1-2.ensures in
    let clock = c.put8.ensures in record { puts = puts-next (puts-next (puts-next mark.puts own.puts refl) sender.puts refl) clock.puts refl; head_fits = record { own-fits = own.fits; sender-fits = sender.fits; clock-fits = clock.fits } }
