use mathlib.Core.Path.{sym, ◌∙◌}
use Rattle.lent_end.proofs.StateLaws.{state-long, status-kept}
use native.Mathlib.Omega.{arith}
use Rattle.lent_looks.specs.Looks.{status_in}
use Rattle.lent_looks.proofs.LookLaws.{seen, unseen}
use Rattle.lent_looks.proofs.status.Goals as goal

-- `lent_looks::status` meets its contract.
pub read1-tag-requires : goal.read1-tag-requires
read1-tag-requires c =
    let known = state-long c.args.state.now (sym c.is_state-ok.ensures ∙ c.if-ok.true) in
    omega (arith, known)

pub returns-then-ok : goal.returns-then-ok
returns-then-ok c =
    seen status_in c.args.state.now _ c.is_state-ok.ensures _ c.if-ok.true (c.read1-tag.ensures ∙ status-kept _ (sym c.is_state-ok.ensures ∙ c.if-ok.true))

pub returns : goal.returns
returns c =
    unseen status_in c.args.state.now _ c.is_state-ok.ensures c.if-ok.false
