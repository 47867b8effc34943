use mathlib.Core.Path.{◌≡◌, refl}
use Prim.Native.Nat.{◌-◌}
use native.Mathlib.Omega.{arith}
use Rattle.end.specs.Names.{lacking}
use Rattle.end.proofs.Lacking.{lacking-none, lacking-more, lacking-most}
use Rattle.rises.proofs.count_lacking.Invariants.{held_in_lem}
use Rattle.rises.proofs.count_lacking.Goals as goal

pub loop-i-init : goal.loop-i-init
loop-i-init c = refl

pub overflow_add-count : goal.overflow_add-count
overflow_add-count c =
    let a = c.args in
    omega (arith, c.loop-i.invariant, lacking-most (held_in_lem a.names) (a.to - a.from) a.from, c.lack-count.ensures.upper_bound)

pub loop-i-preserved : goal.loop-i-preserved
loop-i-preserved c =
    let a = c.args in
    let l = c.loop-i in
    let more = lacking-more (held_in_lem a.names) a.to l.i (omega arith) in
    rw (c.lack-count.ensures.value, c.place.ensures) (omega (arith, more, l.invariant))

pub returns : goal.returns
returns c =
    let a = c.args in
    let l = c.loop-i in
    let held = held_in_lem a.names in
    let is : l.count ≡ lacking held (a.to - a.from) a.from = omega (arith, lacking-none held a.to l.i (omega arith), l.invariant) in record { value = is; upper_bound = omega (arith, is, lacking-most held (a.to - a.from) a.from) }
