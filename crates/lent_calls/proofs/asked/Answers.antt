use borrow.Author.Tests.{le-leb, lt-leb, eq-eqb, ne_eqb}
use Rattle.lent_calls.proofs.asked.Goals as goal

-- `lent_calls::asked` meets its contract.
pub returns-then-room-lt-ROOM_NEEDED : goal.returns-then-room-lt-ROOM_NEEDED
returns-then-room-lt-ROOM_NEEDED c = rw (lt-leb 128 _ c.if-room-lt-ROOM_NEEDED.true)

pub returns-then-draws-ne-DRAWS : goal.returns-then-draws-ne-DRAWS
returns-then-draws-ne-DRAWS c = rw (le-leb 128 _ c.if-room-lt-ROOM_NEEDED.false, ne_eqb _ 64 c.if-draws-ne-DRAWS.true)

pub returns : goal.returns
returns c = rw (le-leb 128 _ c.if-room-lt-ROOM_NEEDED.false, eq-eqb _ 64 c.if-draws-ne-DRAWS.false)
