use mathlib.Core.Path.{◌≡◌, refl}
use native.Mathlib.Omega.{arith}
use Rattle.end.specs.Fire.{fold_up}
use Rattle.end.proofs.FireLaws.{fold_more}
use Rattle.candidates.specs.Candidates.{nearest_of}
use Rattle.candidates.proofs.nearest.Goals as goal

pub loop-h-init : goal.loop-h-init
unfolding nearest_of fold_up
loop-h-init c = (omega arith, refl)

pub loop-h-preserved : goal.loop-h-preserved
unfolding nearest_of
loop-h-preserved c = (omega arith, rw (c.offer-best.ensures, c.loop-h.invariant.1, fold_more))

pub returns : goal.returns
returns c =
    let e : c.loop-h.h ≡ 8 = omega (arith, c.loop-h.invariant.0) in
    rw e at c.loop-h.invariant.1
