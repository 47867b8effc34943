-- `panel::panel_write_data` meets its contract: what a message can hold is the writer's to judge, and what it cannot hold is out of range.
use native.Mathlib.Omega.{arith}
use lib.ListN.{length}
use Rattle.panel.proofs.AnswerLaws.{Holds, holds, no_room, out_of_range}
use Rattle.panel.proofs.panel_write_data.Goals as goal

pub overflow_cast-sender : goal.overflow_cast-sender
overflow_cast-sender c =
    let held : let a = c.args in Holds a.sender a.number (length a.cue.now) = holds _ _ _ c.if-named-cue.true in
    let h = held in
    omega arith

pub overflow_cast-number : goal.overflow_cast-number
overflow_cast-number c =
    let held : let a = c.args in Holds a.sender a.number (length a.cue.now) = holds _ _ _ c.if-named-cue.true in
    let h = held in
    omega arith

pub write_data-requires : goal.write_data-requires
write_data-requires c =
    let held : let a = c.args in Holds a.sender a.number (length a.cue.now) = holds _ _ _ c.if-named-cue.true in
    held.whole

pub returns-then-out-lt-ROOM_NEEDED : goal.returns-then-out-lt-ROOM_NEEDED
returns-then-out-lt-ROOM_NEEDED c =
    let it = no_room _ _ _ _ _ (omega arith) in
    record { value = it.0; out_after = it.1 }

pub returns-else-out-lt-ROOM_NEEDED : goal.returns-else-out-lt-ROOM_NEEDED
returns-else-out-lt-ROOM_NEEDED c =
    let it = out_of_range _ _ _ _ _ (omega arith) c.if-named-cue.false in
    record { value = it.0; out_after = it.1 }
