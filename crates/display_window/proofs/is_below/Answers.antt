-- `display_window::is_below` meets its contract: nothing stands up from place k.
use Rattle.display_window.proofs.SetLaws.{up_none}
use Rattle.display_window.proofs.is_below.Goals as goal

pub returns : goal.returns
returns c = rw c.up_from.ensures (up_none c.args.set c.args.k)
