use mathlib.Core.Path.{ap}
use native.Mathlib.Omega.{arith}
use borrow.Author.Tests.{lt-ltb}
use Rattle.end.specs.declared.Event.TheVariants.{Moves}
use Rattle.lent_calls.proofs.ReasonLaws.{last-event}
use Rattle.lent_calls.proofs.event_of.Goals as goal

-- `lent_calls::event_of` meets its contract, number by number.
pub returns-then-n-lt5 : goal.returns-then-n-lt5
returns-then-n-lt5 c = rw (lt-ltb _ 5 c.if-n-lt5.true) (ap Moves c.move_of.ensures)

pub returns-in-5 : goal.returns-in-5
returns-in-5 c = rw c.in-5.is

pub returns-in-6 : goal.returns-in-6
returns-in-6 c = rw c.in-6.is

pub returns-in-7 : goal.returns-in-7
returns-in-7 c = rw c.in-7.is

pub returns-in-8 : goal.returns-in-8
returns-in-8 c = rw c.in-8.is

pub returns-in-9 : goal.returns-in-9
returns-in-9 c = rw c.in-9.is

pub returns-in_default : goal.returns-in_default
returns-in_default c = last-event c.args.n c.args.name (omega arith)
