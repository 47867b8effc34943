use borrow.Author.Tests.{eq-eqb, ne_eqb}
use Rattle.lent_calls.proofs.params_of.Goals as goal

-- `lent_calls::params_of` meets its contract.
pub returns-then-p-eq7 : goal.returns-then-p-eq7
returns-then-p-eq7 c =
    rw (eq-eqb _ 7 c.if-p-eq7.true)

pub returns-else-p-eq7 : goal.returns-else-p-eq7
returns-else-p-eq7 c = rw (ne_eqb _ 7 c.if-p-eq7.false)
