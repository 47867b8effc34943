use borrow.Author.Tests.{eq-eqb, ne_eqb}
use Rattle.lent_fields.proofs.option_of.Goals as goal

-- `lent_fields::option_of` meets its contract.
pub returns-then-tag-eq0 : goal.returns-then-tag-eq0
returns-then-tag-eq0 g c = rw (eq-eqb _ _ c.if-tag-eq0.true)

pub returns : goal.returns
returns g c = rw (ne_eqb _ _ c.if-tag-eq0.false)
