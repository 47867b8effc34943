use Rattle.numbers.proofs.BitLaws.{with_below}
use Rattle.numbers.proofs.bits.with_host.Goals as goal

-- `numbers::bits::with_host` meets its contract: a set within eight digits stays within them, so the cast loses nothing.
pub overflow_cast-result : goal.overflow_cast-result
overflow_cast-result c =
    let a = c.args in
    rw c.with.ensures (record { fits = with_below a.set a.h 8 c.ranges.set.fits c.requires })
