use native.Mathlib.Omega.{arith}
use Rattle.decimal.proofs.RoomLaws.{written, not_written}
use Rattle.decimal.proofs.put_u64.Goals as goal

-- `decimal::put_u64` meets its contract: the digits are written where there is room for them.
pub put_digits-requires : goal.put_digits-requires
put_digits-requires c = record { ends = omega arith; inside = omega arith }

pub returns-then-w-saturating_sub : goal.returns-then-w-saturating_sub
returns-then-w-saturating_sub c = written (omega arith) (omega arith) c.put_digits.ensures

pub returns-else-w-saturating_sub : goal.returns-else-w-saturating_sub
returns-else-w-saturating_sub c = not_written (omega arith)
