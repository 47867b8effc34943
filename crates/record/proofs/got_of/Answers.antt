use Rattle.record.proofs.LineLaws.{three_in}
use native.Mathlib.Omega.{arith}
use Rattle.record.proofs.got_of.Goals as goal

-- `record::got_of` meets its contract: all words are right, and in range.
pub overflow_cast-name : goal.overflow_cast-name
overflow_cast-name c =
    omega (arith, three_in c.in-Some.host c.in-Some-s.source c.in-Some-n.number c.if-host-source.true)

pub overflow_cast-name-then-host-source : goal.overflow_cast-name-then-host-source
overflow_cast-name-then-host-source c =
    omega (arith, three_in c.in-Some.host c.in-Some-s.source c.in-Some-n.number c.if-host-source.true)

pub overflow_cast-result : goal.overflow_cast-result
overflow_cast-result c =
    omega (arith, three_in c.in-Some.host c.in-Some-s.source c.in-Some-n.number c.if-host-source.true)

pub returns-then-host-source : goal.returns-then-host-source
returns-then-host-source c =
    simp (c.in-Some.is, c.in-Some-s.is, c.in-Some-n.is, c.in-Some-c.is, c.if-host-source.true)

pub returns : goal.returns
returns c =
    simp (c.in-Some.is, c.in-Some-s.is, c.in-Some-n.is, c.in-Some-c.is, c.if-host-source.false) c.no_line-2.ensures
