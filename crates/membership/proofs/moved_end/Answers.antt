-- `membership::moved_end` meets its contract: the status is the move's, and the sources are forgotten where the move says so.
use Rattle.end.specs.Event.{moved_end}
use Rattle.membership.proofs.moved_end.Goals as goal

pub returns-then-forgets : goal.returns-then-forgets
unfolding moved_end
returns-then-forgets c = rw (← c.forgets.ensures, c.if-forgets.true) (rw c.moves_to.ensures at c.without_heard.ensures)

pub returns-else-forgets : goal.returns-else-forgets
unfolding moved_end
returns-else-forgets c = rw (← c.forgets.ensures, c.if-forgets.false, c.moves_to.ensures)
