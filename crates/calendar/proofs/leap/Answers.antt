use native.Mathlib.Omega.{arith}
use Rattle.calendar.proofs.Tests.{leap_400, leap_100, leap_4}
use Rattle.calendar.proofs.leap.Goals as goal

-- `calendar::leap` meets its contract: the three divisions are those of the rule.
pub returns-then-year-eq0 : goal.returns-then-year-eq0
returns-then-year-eq0 c = leap_400 _ (omega arith)

pub returns-then-year-eq0-2 : goal.returns-then-year-eq0-2
returns-then-year-eq0-2 c = leap_100 _ c.if-year-eq0.false (omega arith)

pub returns : goal.returns
returns c = leap_4 _ (omega arith) (omega arith)
