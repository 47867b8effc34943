-- `display_window::has` meets its contract: past its 64 digits nothing is in a set.
use borrow.Author.Tests.{le-ltb}
use Rattle.numbers.proofs.BitLaws.{bit-above}
use Rattle.display_window.proofs.has.Goals as goal

pub returns-else-i-lt-PLACES : goal.returns-else-i-lt-PLACES
returns-else-i-lt-PLACES c = rw (bit-above c.args.set c.args.i 64 c.ranges.set.fits c.if-i-lt-PLACES.false) (le-ltb c.args.i 64 c.if-i-lt-PLACES.false)
