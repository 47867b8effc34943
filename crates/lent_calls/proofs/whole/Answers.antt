use mathlib.Core.Path.{◌≡◌, sym, ◌∙◌}
use mathlib.Core.Bool.{true}
use borrow.Author.Tests.{le-leb}
use Rattle.end.specs.Event.{action_of}
use Rattle.lent_end.specs.State.{is_state}
use Rattle.lent_end.proofs.StateLaws.{state-long}
use Rattle.lent_calls.proofs.CallLaws.{no_room, no_draws, no_state, on_a_state}
use native.Mathlib.Omega.{arith}
use Rattle.lent_calls.proofs.whole.Goals as goal

-- `lent_calls::whole` meets its contract: the questions in their order, then the event.
pub returns-then-out-lt-ROOM_NEEDED : goal.returns-then-out-lt-ROOM_NEEDED
returns-then-out-lt-ROOM_NEEDED c =
    let a = c.args in
    no_room (action_of a.what a.cue a.bytes.now) a.clock a.draws.now a.out.now a.state.now c.if-out-lt-ROOM_NEEDED.true

pub returns-then-draws-ne-DRAWS : goal.returns-then-draws-ne-DRAWS
returns-then-draws-ne-DRAWS c =
    let a = c.args in
    no_draws (action_of a.what a.cue a.bytes.now) a.clock a.draws.now a.out.now a.state.now (le-leb 128 _ c.if-out-lt-ROOM_NEEDED.false) c.if-draws-ne-DRAWS.true

pub on_state-answer-requires : goal.on_state-answer-requires
on_state-answer-requires c =
    let a = c.args in
    let k : is_state a.state.now ≡ true = sym c.is_state-ok.ensures ∙ c.if-ok.true in record { state_len = state-long a.state.now k; state_value = k }

pub returns-then-ok : goal.returns-then-ok
returns-then-ok c =
    let a = c.args in
    on_a_state (action_of a.what a.cue a.bytes.now) a.clock a.draws.now a.out.now a.state.now (le-leb 128 _ c.if-out-lt-ROOM_NEEDED.false) (omega arith) _ c.is_state-ok.ensures c.if-ok.true c.on_state-answer.ensures c.number_of.ensures

pub returns : goal.returns
returns c =
    let a = c.args in
    no_state (action_of a.what a.cue a.bytes.now) a.clock a.draws.now a.out.now a.state.now (le-leb 128 _ c.if-out-lt-ROOM_NEEDED.false) (omega arith) _ c.is_state-ok.ensures c.if-ok.false
