use Rattle.end.specs.Event.{action_of}
use Rattle.lent_calls.proofs.CallLaws.{refused-asked}
use Rattle.lent_calls.proofs.event.Goals as goal

-- `lent_calls::event` meets its contract: questions 1 and 2, then the rest.
pub returns : goal.returns
returns c =
    let a = c.args in
    refused-asked (action_of a.what a.cue a.bytes.now) a.clock a.draws.now a.out.now a.state.now _ c.asked-q.ensures c.if-q-eq0.false
