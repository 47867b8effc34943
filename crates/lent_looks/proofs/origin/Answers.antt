use mathlib.Core.Path.{ap, ◌∙◌}
use native.Mathlib.Omega.{arith}
use Rattle.lent_looks.specs.Looks.{origin_in, origin_of}
use Rattle.lent_looks.proofs.LookLaws.{there-host, there-long, seen_at, unseen_at}
use Rattle.lent_looks.proofs.origin.Goals as goal

-- `lent_looks::origin` meets its contract.
pub place-at-requires : goal.place-at-requires
place-at-requires c =
    let a = c.args in
    there-host origin_in a.source a.state.now _ c.is_there-ok.ensures c.if-ok.true

pub overflow_add-at : goal.overflow_add-at
overflow_add-at c =
    let a = c.args in
    let below = there-host origin_in a.source a.state.now _ c.is_there-ok.ensures c.if-ok.true in
    omega (arith, below, c.place-at.ensures)

pub get_origin-x-requires : goal.get_origin-x-requires
get_origin-x-requires c =
    let a = c.args in
    let known = there-long origin_in a.source a.state.now _ c.is_there-ok.ensures c.if-ok.true in
    let below = there-host origin_in a.source a.state.now _ c.is_there-ok.ensures c.if-ok.true in
    omega (arith, known, below, c.place-at.ensures)

pub returns-then-ok : goal.returns-then-ok
returns-then-ok c =
    let a = c.args in
    seen_at origin_in a.source a.state.now _ c.is_there-ok.ensures _ _ c.if-ok.true c.place-at.ensures (c.origin_of.ensures ∙ ap origin_of c.get_origin-x.ensures)

pub returns : goal.returns
returns c =
    let a = c.args in
    unseen_at origin_in a.source a.state.now _ c.is_there-ok.ensures c.if-ok.false
