use mathlib.Core.Path.{sym, ◌∙◌}
use native.Mathlib.Omega.{arith}
use Rattle.openings.proofs.Tests.{too_many, no_date, no_minute, none_yet}
use Rattle.openings.proofs.asked.Goals as goal

-- `openings::asked` meets its contract: the three tests before the first window.
pub returns-then-n-gt-LONGEST : goal.returns-then-n-gt-LONGEST
returns-then-n-gt-LONGEST c = too_many _ _ (omega arith)

pub returns-then-not-exists : goal.returns-then-not-exists
returns-then-not-exists c = no_date _ _ (omega arith) (sym c.exists.ensures ∙ c.if-not-exists.true)

pub returns-then-m-ge-DAY : goal.returns-then-m-ge-DAY
returns-then-m-ge-DAY c = no_minute _ _ (omega arith) (sym c.exists.ensures ∙ c.if-not-exists.false) (omega arith)

pub returns : goal.returns
returns c = none_yet _ _ (omega arith) (sym c.exists.ensures ∙ c.if-not-exists.false) (omega arith)
