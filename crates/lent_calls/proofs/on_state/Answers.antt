use Rattle.end.specs.Event.{action_of}
use Rattle.lent_calls.proofs.CallLaws.{refused, moved}
use Rattle.lent_calls.proofs.on_state.Goals as goal

-- `lent_calls::on_state` meets its contract: the event on the end that the bytes hold, and the end put back unless it was refused.
pub returns-then-is_refused : goal.returns-then-is_refused
returns-then-is_refused c =
    let a = c.args in
    refused c.get_end-e.result (action_of a.what a.cue a.bytes.now) a.clock a.draws.now a.out.now _ _ a.state.now c.get_end-e.ensures c.event-s.ensures.value c.event-s.ensures.out_after c.requires.state_value _ c.is_refused.ensures c.if-is_refused.true

pub returns : goal.returns
returns c =
    let a = c.args in
    moved c.get_end-e.result (action_of a.what a.cue a.bytes.now) a.clock a.draws.now a.out.now _ _ a.state.now c.get_end-e.ensures c.event-s.ensures.value c.event-s.ensures.out_after c.requires.state_value _ _ c.is_refused.ensures c.if-is_refused.false c.put_end.ensures
