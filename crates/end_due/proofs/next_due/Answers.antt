use mathlib.Core.Path.{◌≡◌, refl}
use native.Mathlib.Omega.{arith}
use Rattle.end.specs.Fire.{fold_up}
use Rattle.end.proofs.FireLaws.{fold_more}
use Rattle.earliest.proofs.Numbers.{span_in}
use Rattle.end_due.specs.Due.{next_due}
use Rattle.end_due.proofs.next_due.Goals as goal

pub loop-s-init : goal.loop-s-init
unfolding fold_up
loop-s-init c = (omega arith, refl)

pub names_due-out-requires : goal.names_due-out-requires
names_due-out-requires c = span_in c.loop-s.s-index (omega arith) c.requires

pub loop-s-preserved : goal.loop-s-preserved
loop-s-preserved c = (omega arith, rw (c.names_due-out.ensures, c.loop-s.invariant.1, fold_more))

pub returns : goal.returns
unfolding next_due
returns c =
    let e : c.loop-s.s-index ≡ 8 = omega (arith, c.loop-s.invariant.0) in
    rw e at c.loop-s.invariant.1
