use Rattle.std.proofs.Common.{arith, sym}
use Rattle.ledger.proofs.ViewLaws.{view_empty}
use Rattle.ledger.proofs.JudgeLaws.{none_viewed, line_viewed, all_viewed}
use Rattle.ledger.proofs.view_before.Goals as goal

pub loop-l-init : goal.loop-l-init
loop-l-init c = none_viewed _ _ (sym (view_empty _)) (omega arith)

pub view_after-v-requires : goal.view_after-v-requires
view_after-v-requires c = omega (arith, c.loop-l.invariant.few, c.requires)

pub loop-l-preserved : goal.loop-l-preserved
loop-l-preserved c = line_viewed c.loop-l.invariant c.loop-l-test.true c.view_after-v.ensures

pub returns : goal.returns
returns c = all_viewed c.loop-l.invariant c.loop-l-test.false
