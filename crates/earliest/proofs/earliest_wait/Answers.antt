use mathlib.Core.Path.{refl}
use native.Mathlib.Omega.{arith}
use Rattle.end.specs.Fire.{fold_up, earliest}
use Rattle.end.proofs.FireLaws.{fold_more}
use Rattle.earliest.proofs.Numbers.{span_in}
use Rattle.earliest.proofs.earliest_wait.Goals as goal

pub loop-h-init : goal.loop-h-init
unfolding earliest fold_up
loop-h-init c = refl

pub earliest_name-first-requires : goal.earliest_name-first-requires
earliest_name-first-requires c = rw c.from.ensures (span_in c.loop-h.h (omega arith) c.requires)

pub loop-h-preserved : goal.loop-h-preserved
unfolding earliest
loop-h-preserved c = rw (c.earliest_name-first.ensures, c.from.ensures, c.loop-h.invariant, fold_more)
