use mathlib.Core.Path.{refl}
use Prim.Native.Nat.{◌<◌}
use native.Mathlib.Omega.{arith}
use Rattle.end.specs.Records.{width}
use Rattle.end.specs.Fire.{fold_up}
use Rattle.end.proofs.FireLaws.{fold_more}
use Rattle.earliest.proofs.Numbers.{read}
use Rattle.end_due.proofs.names_due.Goals as goal

pub loop-i-init : goal.loop-i-init
unfolding fold_up
loop-i-init c = (c.width_of-i-end.ensures.value, refl)

pub loop-i-preserved : goal.loop-i-preserved
loop-i-preserved c =
    let s = c.args.s.now in
    let i = c.loop-i.i in
    let h : i < width s.span = omega (arith, c.width_of-i-end.ensures.value) in
    (c.width_of-i-end.ensures.value, rw (c.slot_due-out.ensures, c.place-at.ensures, c.start_of-from.ensures.value, c.loop-i.invariant.1, fold_more, read s i h))
