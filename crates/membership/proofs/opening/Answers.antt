-- `membership::opening` meets its contract: the answers to questions 12, 13 and 14 say which case of `opening_of` holds.
use mathlib.Core.Path.{refl}
use Rattle.membership.proofs.MoveLaws.{open_idle, open_14, open_13, open_12}
use Rattle.membership.proofs.opening.Goals as goal

pub returns-then-me-ge8 : goal.returns-then-me-ge8
returns-then-me-ge8 c = open_12 _ _ refl refl c.if-me-ge8.true c.refused_opening.ensures

pub returns-then-not-params_open : goal.returns-then-not-params_open
returns-then-not-params_open c =
    open_13 _ _ c.params_open.ensures refl c.if-me-ge8.false c.if-not-params_open.true c.refused_opening-then-not-params_open.ensures

pub returns-then-not-delay_in : goal.returns-then-not-delay_in
returns-then-not-delay_in c =
    open_14 _ _ c.params_open.ensures c.delay_in.ensures c.if-me-ge8.false c.if-not-params_open.false c.if-not-delay_in.true
    c.refused_opening-then-not-delay_in.ensures

pub returns : goal.returns
returns c = open_idle _ _ c.params_open.ensures c.delay_in.ensures c.if-me-ge8.false c.if-not-params_open.false c.if-not-delay_in.false c.fresh_end.ensures
