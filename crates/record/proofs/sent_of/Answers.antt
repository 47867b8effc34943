use Rattle.record.proofs.LineLaws.{two_in}
use native.Mathlib.Omega.{arith}
use Rattle.record.proofs.sent_of.Goals as goal

-- `record::sent_of` meets its contract: all words are right, and in range.
pub overflow_cast-result : goal.overflow_cast-result
overflow_cast-result c =
    omega (arith, two_in c.in-Some.host c.in-Some-n.number c.if-host-number.true)

pub overflow_cast-result-then-host-number : goal.overflow_cast-result-then-host-number
overflow_cast-result-then-host-number c =
    omega (arith, two_in c.in-Some.host c.in-Some-n.number c.if-host-number.true)

pub returns-then-host-number : goal.returns-then-host-number
returns-then-host-number c =
    simp (c.in-Some.is, c.in-Some-n.is, c.in-Some-c.is, c.if-host-number.true)

pub returns : goal.returns
returns c =
    simp (c.in-Some.is, c.in-Some-n.is, c.in-Some-c.is, c.if-host-number.false) c.no_line-2.ensures
