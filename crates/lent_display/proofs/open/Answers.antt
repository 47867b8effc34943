use native.Mathlib.Omega.{arith}
use Rattle.lent_display.proofs.CallLaws.{open_short, open_refused, open_taken}
use Rattle.lent_display.proofs.open.Goals as goal

-- `lent_display::open` meets its contract.
pub returns-then-s-ne-WIDTH : goal.returns-then-s-ne-WIDTH
returns-then-s-ne-WIDTH c =
    let a = c.args in
    open_short a.own a.sender a.s.now c.if-s-ne-WIDTH.true

pub returns-then-q-eq0 : goal.returns-then-q-eq0
returns-then-q-eq0 c =
    let a = c.args in
    open_taken a.own a.sender a.s.now _ _ c.open-o.result _ (omega arith) c.host_of-own_host.ensures c.host_of-sender_host.ensures
    c.open-o.ensures c.number_of-q.ensures _ c.if-q-eq0.true c.put_display.ensures

pub returns : goal.returns
returns c =
    let a = c.args in
    open_refused a.own a.sender a.s.now _ _ c.open-o.result _ (omega arith) c.host_of-own_host.ensures c.host_of-sender_host.ensures
    c.open-o.ensures c.number_of-q.ensures c.if-q-eq0.false
