use native.Mathlib.Omega.{arith}
use Rattle.calendar.proofs.Tests.{too_early_lem, too_late, no_month, past_december, no_day, by_days}
use Rattle.calendar.proofs.exists.Goals as goal

-- `calendar::exists` meets its contract: each test that fails is one of the definition's.
pub returns-then-d : goal.returns-then-d
returns-then-d c = too_early_lem _ (omega arith)

pub returns-then-d-2 : goal.returns-then-d-2
returns-then-d-2 c = too_late _ (omega arith) (omega arith)

pub returns-then-d-3 : goal.returns-then-d-3
returns-then-d-3 c = no_month _ (omega arith) (omega arith) (omega arith)

pub returns-then-d-4 : goal.returns-then-d-4
returns-then-d-4 c = past_december _ (omega arith) (omega arith) (omega arith) (omega arith)

pub returns-then-d-5 : goal.returns-then-d-5
returns-then-d-5 c = no_day _ (omega arith) (omega arith) (omega arith) (omega arith) (omega arith)

pub returns : goal.returns
returns c = by_days _ _ (omega arith) (omega arith) (omega arith) (omega arith) (omega arith) (omega arith)
