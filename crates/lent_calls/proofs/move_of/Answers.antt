use native.Mathlib.Omega.{arith}
use Rattle.lent_calls.proofs.ReasonLaws.{last-move}
use Rattle.lent_calls.proofs.move_of.Goals as goal

-- `lent_calls::move_of` meets its contract, number by number.
pub returns-in-0 : goal.returns-in-0
returns-in-0 c = rw c.in-0.is

pub returns-in-1 : goal.returns-in-1
returns-in-1 c = rw c.in-1.is

pub returns-in-2 : goal.returns-in-2
returns-in-2 c = rw c.in-2.is

pub returns-in-3 : goal.returns-in-3
returns-in-3 c = rw c.in-3.is

pub returns-in_default : goal.returns-in_default
returns-in_default c = last-move c.args.n (omega arith)
