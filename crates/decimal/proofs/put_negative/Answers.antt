use mathlib.Core.Path.{◌∙◌}
use native.Mathlib.Omega.{arith}
use lib.ListN.{length-set}
use Rattle.decimal.proofs.RoomLaws.{signed-written, not_written}
use Rattle.decimal.proofs.put_negative.Goals as goal

-- `decimal::put_negative` meets its contract: the sign and then the digits are one write.
pub put_digits-requires : goal.put_digits-requires
put_digits-requires c = record { ends = omega arith; inside = simp length-set (omega arith) }

pub shape_of-out : goal.shape_of-out
shape_of-out c = c.put_digits.auto.out ∙ simp length-set

pub returns-then-w-saturating_sub : goal.returns-then-w-saturating_sub
returns-then-w-saturating_sub c = signed-written (omega arith) (omega arith) c.put_digits.ensures

pub returns-else-w-saturating_sub : goal.returns-else-w-saturating_sub
returns-else-w-saturating_sub c = not_written (omega arith)
