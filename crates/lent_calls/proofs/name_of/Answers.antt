use borrow.Author.Tests.{le-leb, lt-leb}
use Rattle.message.specs.Entry.{as_host, as_number}
use Rattle.lent_calls.proofs.name_of.Goals as goal

-- `lent_calls::name_of` meets its contract.
pub returns-then-number-le65535 : goal.returns-then-number-le65535
returns-then-number-le65535 c =
    rw (le-leb _ 65535 c.if-number-le65535.true) (λ i. record { source = c.host_of-host.ensures i; number = as_number (c.narrow16-n.ensures i) })

pub returns-else-number-le65535 : goal.returns-else-number-le65535
returns-else-number-le65535 c =
    rw (lt-leb _ 65535 c.if-number-le65535.false) (λ i. record { source = as_host 255; number = as_number (c.narrow16-n.ensures i) })
