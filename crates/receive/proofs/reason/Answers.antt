use mathlib.Core.Path.{sym, ◌∙◌}
use borrow.Author.Tests.{eq-eqb, ne_eqb}
use Rattle.receive.proofs.reason.Goals as goal

-- `receive::reason` meets its contract: a message of one's own, one with a word, or one without.
pub returns-then-m-e : goal.returns-then-m-e
returns-then-m-e c = rw (eq-eqb _ _ c.if-m-e.true)

pub returns-then-is_named : goal.returns-then-is_named
returns-then-is_named c =
    rw (ne_eqb _ _ c.if-m-e.false, sym c.is_named.ensures ∙ c.if-is_named.true) c.named_reason.ensures

pub returns-else-is_named : goal.returns-else-is_named
returns-else-is_named c =
    rw (ne_eqb _ _ c.if-m-e.false, sym c.is_named.ensures ∙ c.if-is_named.false) c.fetch_reason.ensures
