use Rattle.end.specs.Event.{Send}
use Rattle.lent_calls.specs.Arguments.{cue_of}
use Rattle.lent_calls.proofs.CallLaws.{refused-asked}
use Rattle.lent_calls.proofs.send.Goals as goal

-- `lent_calls::send` meets its contract.
pub returns-then-q-eq0 : goal.returns-then-q-eq0
returns-then-q-eq0 c =
    rw (← c.cue_of-c.ensures) c.whole.ensures

pub returns : goal.returns
returns c =
    let a = c.args in
    refused-asked (Send (cue_of a.cue.now)) a.clock a.draws.now a.out.now a.state.now _ c.asked-q.ensures c.if-q-eq0.false
