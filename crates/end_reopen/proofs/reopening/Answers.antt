use native.Mathlib.Omega.{arith}
use Rattle.end_reopen.proofs.ReopeningLaws.{next_fits, accepted, refused}
use Rattle.end_reopen.proofs.reopening.Goals as goal

-- `end_reopen::reopening` meets its contract: the questions, and the end with the two stored numbers.
pub overflow_cast-next : goal.overflow_cast-next
overflow_cast-next c =
    let a = c.args in
    omega (arith, next_fits a.me a.params a.clock a.next c.opening-o.result _ c.opening-o.ensures c.verdict_with.ensures c.in-Accepted.is)

pub returns-in-Accepted : goal.returns-in-Accepted
returns-in-Accepted c =
    let a = c.args in
    accepted a.me a.params a.clock a.next c.opening-o.result _ c.opening-o.ensures c.verdict_with.ensures _ c.in-Accepted.is c.reopened.ensures

pub returns-in_default : goal.returns-in_default
returns-in_default c =
    let a = c.args in
    refused a.me a.params a.clock a.next c.opening-o.result _ c.opening-o.ensures c.verdict_with.ensures _ c.in_default.not-Accepted c.refused_end.ensures
