use Rattle.message.specs.Entry.{as_host}
use Rattle.lent_display.specs.Bytes.{display_from}
use Rattle.lent_display.proofs.get_display.Goals as goal

-- `lent_display::get_display` meets its contract.
pub returns : goal.returns
unfolding display_from
returns c =
    let clock = c.before in
    let sender = clock.before in
    λ i. record {
      own = as_host (sender.read1-own.ensures i);
      sender = as_host (sender.read1-sender.ensures i);
      clock = clock.read8-clock.ensures i;
      window = c.get_window-window.ensures i;
    }
