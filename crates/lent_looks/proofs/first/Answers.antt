use mathlib.Core.Path.{ap, ◌∙◌}
use native.Mathlib.Omega.{arith}
use Rattle.lent_looks.specs.Looks.{first_in, first_of}
use Rattle.lent_looks.proofs.LookLaws.{there-host, there-long, seen_at, unseen_at}
use Rattle.lent_looks.proofs.first.Goals as goal

-- `lent_looks::first` meets its contract.
pub place-at-requires : goal.place-at-requires
place-at-requires c =
    let a = c.args in
    there-host first_in a.source a.state.now _ c.is_there-ok.ensures c.if-ok.true

pub get_span-span-requires : goal.get_span-span-requires
get_span-span-requires c =
    let a = c.args in
    let known = there-long first_in a.source a.state.now _ c.is_there-ok.ensures c.if-ok.true in
    let below = there-host first_in a.source a.state.now _ c.is_there-ok.ensures c.if-ok.true in
    omega (arith, known, below, c.place-at.ensures)

pub returns-then-ok : goal.returns-then-ok
returns-then-ok c =
    let a = c.args in
    seen_at first_in a.source a.state.now _ c.is_there-ok.ensures _ _ c.if-ok.true c.place-at.ensures (c.first_of.ensures ∙ ap first_of c.get_span-span.ensures)

pub returns : goal.returns
returns c =
    let a = c.args in
    unseen_at first_in a.source a.state.now _ c.is_there-ok.ensures c.if-ok.false
