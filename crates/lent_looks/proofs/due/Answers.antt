use mathlib.Core.Path.{sym, ap, ◌∙◌}
use Rattle.lent_end.proofs.StateLaws.{state-long}
use Rattle.lent_looks.specs.Looks.{due_in}
use Rattle.lent_looks.proofs.LookLaws.{seen, unseen}
use Rattle.end_due.specs.Due.{due_of}
use Rattle.lent_looks.proofs.due.Goals as goal

-- `lent_looks::due` meets its contract.
pub get_end-e-requires : goal.get_end-e-requires
get_end-e-requires c =
    let known = state-long c.args.state.now (sym c.is_state-ok.ensures ∙ c.if-ok.true) in
    known

pub returns-then-ok : goal.returns-then-ok
returns-then-ok c =
    seen due_in c.args.state.now _ c.is_state-ok.ensures _ c.if-ok.true (c.next_due.ensures ∙ ap due_of c.get_end-e.ensures)

pub returns : goal.returns
returns c =
    unseen due_in c.args.state.now _ c.is_state-ok.ensures c.if-ok.false
