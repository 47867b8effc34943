use mathlib.Core.Path.{◌≡◌, subst}
use Prim.Native.Nat.{ℕ, zero, suc, ◌≤◌, ◌<◌, ◌^◌}
use native.Mathlib.Omega.{arith}
use lib.ListN.{length}
use Rattle.decimal.specs.Decimal.{decimal}
use Rattle.decimal.proofs.DecimalLaws.{length_most}
use Rattle.answers.proofs.PutLaws.{put_in_room}
use Rattle.answers.proofs.number.Goals as goal

-- `answers::number` meets its contract: so many digits are enough for a number below that power of ten.
digits_most : (w n : ℕ) → 0 < w → n < 10 ^ w → length (decimal n) ≤ w
digits_most zero n p h = absurd (omega (arith, p))
digits_most (suc k) n p h = length_most k n h

pub returns : goal.returns
returns g c = put_in_room c.put_u64.ensures (digits_most _ _ c.requires.some_digits c.requires.few_digits) (omega arith)
