-- `membership::moved` meets its contract: the status says which case of `move_of` holds.
use mathlib.Core.Path.{sym, ◌∙◌}
use Rattle.end.specs.declared.Answer.TheVariants as answer
use Rattle.membership.proofs.MoveLaws.{move-done, move-ignored}
use Rattle.membership.proofs.moved.Goals as goal

pub returns-then-may_move : goal.returns-then-may_move
returns-then-may_move c =
    let a = c.args in
    (λ i. record { answer = answer.Done; end = c.moved_end.ensures i }) ∙ sym (move-done a.m a.e (sym c.may_move.ensures ∙ c.if-may_move.true))

pub returns-else-may_move : goal.returns-else-may_move
returns-else-may_move c =
    let a = c.args in
    sym (move-ignored a.m a.e (sym c.may_move.ensures ∙ c.if-may_move.false))
