use mathlib.Core.Path.{refl}
use native.Mathlib.Omega.{arith}
use Rattle.end.proofs.Bounds.{reply_product}
use Rattle.timing.proofs.reply_wait.Goals as goal

-- `timing::reply_wait` meets its contract: the product fits.
pub overflow_mul-result : goal.overflow_mul-result
overflow_mul-result c = omega (arith, reply_product c.args.c c.args.d c.requires.0 c.requires.1)

pub returns : goal.returns
returns c = record { value = refl; upper_bound = reply_product c.args.c c.args.d c.requires.0 c.requires.1 }
