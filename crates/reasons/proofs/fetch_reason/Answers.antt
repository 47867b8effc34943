-- `reasons::fetch_reason` meets its contract: the test is the definition's.
use mathlib.Core.Path.{sym, ◌∙◌}
use Rattle.reasons.proofs.fetch_reason.Goals as goal

pub returns-then-may_fetch : goal.returns-then-may_fetch
returns-then-may_fetch c = rw (sym c.may_fetch.ensures ∙ c.if-may_fetch.true)

pub returns-else-may_fetch : goal.returns-else-may_fetch
returns-else-may_fetch c = rw (sym c.may_fetch.ensures ∙ c.if-may_fetch.false)
