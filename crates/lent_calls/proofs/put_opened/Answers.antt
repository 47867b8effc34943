use native.Mathlib.Omega.{arith}
use Rattle.lent_calls.proofs.OpenLaws.{other_length, refused, taken}
use Rattle.lent_calls.proofs.put_opened.Goals as goal

-- `lent_calls::put_opened` meets its contract.
pub returns-then-state-ne-STATE : goal.returns-then-state-ne-STATE
returns-then-state-ne-STATE c =
    let a = c.args in
    other_length a.o a.state.now c.if-state-ne-STATE.true

pub returns-then-refusal-eq0 : goal.returns-then-refusal-eq0
returns-then-refusal-eq0 c =
    let a = c.args in
    taken a.o a.state.now _ (omega arith) c.number_of-refusal.ensures _ c.if-refusal-eq0.true c.put_end.ensures

pub returns-else-refusal-eq0 : goal.returns-else-refusal-eq0
returns-else-refusal-eq0 c =
    let a = c.args in
    refused a.o a.state.now _ (omega arith) c.number_of-refusal.ensures c.if-refusal-eq0.false
