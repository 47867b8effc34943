-- `fetch::hand_late` meets its contract: the test is the definition's.
use mathlib.Core.Path.{sym, ◌∙◌}
use Rattle.numbers.proofs.SpliceLaws.{splice-start}
use Rattle.end.specs.Answer.{answer_of, buffer_of}
use Rattle.fetch.proofs.hand_late.Goals as goal

pub returns-then-may_hand-clause-value : goal.returns-then-may_hand-clause-value
unfolding answer_of
returns-then-may_hand-clause-value c = rw (sym c.may_hand.ensures ∙ c.if-may_hand.true)

pub returns-then-may_hand-clause-out_after : goal.returns-then-may_hand-clause-out_after
unfolding buffer_of
returns-then-may_hand-clause-out_after c = rw (sym c.may_hand.ensures ∙ c.if-may_hand.true) (c.put_bytes.ensures ∙ splice-start _ _)

pub returns-else-may_hand-clause-value : goal.returns-else-may_hand-clause-value
unfolding answer_of
returns-else-may_hand-clause-value c = rw (sym c.may_hand.ensures ∙ c.if-may_hand.false)

pub returns-else-may_hand-clause-out_after : goal.returns-else-may_hand-clause-out_after
unfolding buffer_of
returns-else-may_hand-clause-out_after c = rw (sym c.may_hand.ensures ∙ c.if-may_hand.false)
