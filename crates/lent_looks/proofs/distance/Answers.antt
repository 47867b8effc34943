use native.Mathlib.Omega.{arith}
use Rattle.lent_looks.specs.Looks.{distance_in}
use Rattle.lent_looks.proofs.LookLaws.{there-host, there-long, seen_at, unseen_at}
use Rattle.lent_looks.proofs.distance.Goals as goal

-- `lent_looks::distance` meets its contract.
pub place-at-requires : goal.place-at-requires
place-at-requires c =
    let a = c.args in
    there-host distance_in a.h a.state.now _ c.is_there-ok.ensures c.if-ok.true

pub overflow_add-at : goal.overflow_add-at
overflow_add-at c =
    let a = c.args in
    let below = there-host distance_in a.h a.state.now _ c.is_there-ok.ensures c.if-ok.true in
    omega (arith, below, c.place-at.ensures)

pub read8-requires : goal.read8-requires
read8-requires c =
    let a = c.args in
    let known = there-long distance_in a.h a.state.now _ c.is_there-ok.ensures c.if-ok.true in
    let below = there-host distance_in a.h a.state.now _ c.is_there-ok.ensures c.if-ok.true in
    omega (arith, known, below, c.place-at.ensures)

pub returns-then-ok : goal.returns-then-ok
returns-then-ok c =
    let a = c.args in
    seen_at distance_in a.h a.state.now _ c.is_there-ok.ensures _ _ c.if-ok.true c.place-at.ensures c.read8.ensures

pub returns : goal.returns
returns c =
    let a = c.args in
    unseen_at distance_in a.h a.state.now _ c.is_there-ok.ensures c.if-ok.false
