use Rattle.std.proofs.Common.{◌≡◌, Some}
use lib.ListN.{drop}
use Rattle.decimal.specs.Steps.{digits_after}
use Rattle.decimal.proofs.digits_in.Given as goal

-- `decimal::digits_in` meets its contract: what is left, read after what was read so far, is the whole.
abbrev pub invariant-loop-b : goal.invariant-loop-b
invariant-loop-b l = digits_after (Some l.v) (drop l.b-index l.digits) ≡ digits_after (Some 0) l.digits
