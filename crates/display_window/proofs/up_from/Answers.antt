-- `display_window::up_from` meets its contract: past its 64 digits a set is none.
use mathlib.Core.Path.{sym}
use Rattle.display_window.proofs.SetLaws.{up-past}
use Rattle.display_window.proofs.up_from.Goals as goal

pub returns-else-k-lt-PLACES : goal.returns-else-k-lt-PLACES
returns-else-k-lt-PLACES c = sym (up-past c.args.set c.args.k 64 c.ranges.set.fits c.if-k-lt-PLACES.false)
