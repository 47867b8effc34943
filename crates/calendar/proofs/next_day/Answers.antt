-- `calendar::next_day` meets its contract: within a month, at its end, at the year's end, at the calendar's.
use mathlib.Core.Path.{◌∙◌}
use native.Mathlib.Omega.{arith}
use Rattle.calendar.proofs.Tests.{next_in_month, next_month, next_year, last-stays}
use Rattle.calendar.proofs.next_day.Goals as goal

pub returns-then-d-days : goal.returns-then-d-days
returns-then-d-days c = c.new.ensures ∙ next_in_month _ (omega arith)

pub returns-then-d-lt12 : goal.returns-then-d-lt12
returns-then-d-lt12 c = c.new-then-d-lt12.ensures ∙ next_month _ (omega arith) (omega arith)

pub returns-then-d : goal.returns-then-d
returns-then-d c = c.new-then-d.ensures ∙ next_year _ (omega arith) (omega arith) (omega arith)

pub returns : goal.returns
returns c = last-stays _ (omega arith) (omega arith) (omega arith)
