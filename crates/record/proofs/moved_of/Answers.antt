use borrow.Author.Tests.{lt-ltb, le-ltb}
use Rattle.record.proofs.moved_of.Goals as goal

-- `record::moved_of` meets its contract: both words are right, and the host is below 8.
pub returns-then-host-lt-HOSTS : goal.returns-then-host-lt-HOSTS
returns-then-host-lt-HOSTS c =
    simp (c.in-Some.is, c.in-Some-h.is, lt-ltb _ _ c.if-host-lt-HOSTS.true)

pub returns : goal.returns
returns c =
    simp (c.in-Some.is, c.in-Some-h.is, le-ltb _ _ c.if-host-lt-HOSTS.false) c.no_line-2.ensures
