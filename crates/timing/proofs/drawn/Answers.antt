use mathlib.Core.Path.{refl}
use Prim.Native.Nat.{◌≤◌}
use native.Mathlib.Omega.{arith}
use Rattle.end.specs.Round.{share}
use Rattle.end.proofs.Bounds.{drawn_product, share-most}
use Rattle.timing.proofs.drawn.Goals as goal

-- `timing::drawn` meets its contract: the product fits, and a share is at most the whole.
pub overflow_mul-result : goal.overflow_mul-result
overflow_mul-result c = omega (arith, drawn_product c.args.wait c.args.u 1048576000 (omega arith) (omega arith))

pub returns : goal.returns
unfolding share
returns c =
    let s : share c.args.wait c.args.u ≤ c.args.wait = share-most c.args.wait c.args.u (omega arith) in record { value = refl; upper_bound = omega arith }
