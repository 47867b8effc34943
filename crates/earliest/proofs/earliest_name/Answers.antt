use mathlib.Core.Path.{refl}
use Prim.Native.Nat.{◌<◌}
use native.Mathlib.Omega.{arith}
use Rattle.end.specs.Records.{width}
use Rattle.end.specs.Fire.{fold_up}
use Rattle.end.proofs.FireLaws.{fold_more}
use Rattle.earliest.proofs.Numbers.{read}
use Rattle.earliest.proofs.earliest_name.Goals as goal

pub loop-i-init : goal.loop-i-init
unfolding fold_up
loop-i-init c = refl

pub loop-i-preserved : goal.loop-i-preserved
loop-i-preserved c =
    let s = c.args.s.now in
    let i = c.loop-i.i in
    let h : i < width s.span = omega (arith, c.width_of-i-end.ensures.value) in
    rw (c.offer-out.ensures, c.place.ensures, c.start_of-from.ensures.value, c.loop-i.invariant, fold_more, read s i h)
