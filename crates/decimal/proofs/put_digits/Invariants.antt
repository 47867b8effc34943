use mathlib.Core.Path.{◌≡◌}
use mathlib.Core.List.{◌++◌}
use Prim.Native.Nat.{◌+◌, ◌≤◌}
use lib.ListN.{length, take, drop}
use Rattle.decimal.specs.Decimal.{decimal}
use Rattle.decimal.proofs.put_digits.Given as goal

-- `decimal::put_digits` meets its contract: what stands before `at` is as it was; with the digits that are left, the rest is what is wanted.
abbrev pub invariant-loop-left : goal.invariant-loop-left
invariant-loop-left l =
    (l.i ≡ l.at + length (decimal l.left)) × (l.i ≤ l.end) × (length l.out ≡ length l.initial.out) × (take l.at l.out ≡ take l.at l.initial.out)
    × (decimal l.left ++ drop l.i l.out ≡ decimal l.n ++ drop l.end l.initial.out)

abbrev pub decreases-loop-left : goal.decreases-loop-left
decreases-loop-left l = l.left
