use Rattle.end.specs.Event.{Else, Fetch}
use Rattle.lent_calls.specs.Arguments.{name_of}
use Rattle.lent_calls.proofs.CallLaws.{refused-asked}
use Rattle.lent_calls.proofs.fetch.Goals as goal

-- `lent_calls::fetch` meets its contract.
pub returns-then-q-eq0 : goal.returns-then-q-eq0
returns-then-q-eq0 c =
    rw (← c.name_of-name.ensures) c.whole.ensures

pub returns : goal.returns
returns c =
    let a = c.args in
    refused-asked (Else (Fetch (name_of a.source a.number))) a.clock a.draws.now a.out.now a.state.now _ c.asked-q.ensures c.if-q-eq0.false
