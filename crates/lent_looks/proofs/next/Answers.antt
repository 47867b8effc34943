use mathlib.Core.Path.{sym, ◌∙◌}
use Rattle.lent_end.proofs.StateLaws.{state-long}
use native.Mathlib.Omega.{arith}
use Rattle.lent_looks.specs.Looks.{next_in}
use Rattle.lent_looks.proofs.LookLaws.{seen, unseen}
use Rattle.lent_end.specs.State.{end_from}
use Rattle.lent_looks.proofs.next.Goals as goal

-- `lent_looks::next` meets its contract.
pub read4-n-requires : goal.read4-n-requires
read4-n-requires c =
    let known = state-long c.args.state.now (sym c.is_state-ok.ensures ∙ c.if-ok.true) in
    omega (arith, known)

pub returns-then-ok : goal.returns-then-ok
unfolding end_from
returns-then-ok c =
    seen next_in c.args.state.now _ c.is_state-ok.ensures _ c.if-ok.true c.read4-n.ensures

pub returns : goal.returns
returns c =
    unseen next_in c.args.state.now _ c.is_state-ok.ensures c.if-ok.false
