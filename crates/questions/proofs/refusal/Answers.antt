-- `questions::refusal` meets its contract: at each return the tests passed so far say which no is the first.
use borrow.Author.Tests.{le-leb, lt-leb, eq-eqb, ne_eqb}
use Rattle.end.specs.Event.{question_of}
use Rattle.questions.proofs.refusal.Goals as goal

pub returns-then-draws-eq-DRAWS : goal.returns-then-draws-eq-DRAWS
unfolding question_of
returns-then-draws-eq-DRAWS c =
    let a = c.args in
    λ bytes h. rw (le-leb 128 a.room c.if-room-ge-ROOM_NEEDED.true, eq-eqb a.draws 64 c.if-draws-eq-DRAWS.true, ← (c.own_refusal-own.ensures bytes h)) c.state_refusal.ensures

pub returns-else-draws-eq-DRAWS : goal.returns-else-draws-eq-DRAWS
unfolding question_of
returns-else-draws-eq-DRAWS c =
    let a = c.args in
    λ bytes h. rw (le-leb 128 a.room c.if-room-ge-ROOM_NEEDED.true, ne_eqb a.draws 64 c.if-draws-eq-DRAWS.false)

pub returns-else-room-ge-ROOM_NEEDED : goal.returns-else-room-ge-ROOM_NEEDED
unfolding question_of
returns-else-room-ge-ROOM_NEEDED c =
    let a = c.args in
    λ bytes h. rw (lt-leb 128 a.room c.if-room-ge-ROOM_NEEDED.false)
