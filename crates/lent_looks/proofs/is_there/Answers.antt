use borrow.Author.Tests.{lt-ltb, le-ltb}
use Rattle.lent_looks.proofs.is_there.Goals as goal

-- `lent_looks::is_there` meets its contract.
pub returns-then-h : goal.returns-then-h
returns-then-h c = rw (lt-ltb _ 8 c.if-h.true) c.is_state.ensures

pub returns : goal.returns
returns c = rw (le-ltb _ 8 c.if-h.false)
