use mathlib.Core.Path.{refl, sym, ◌∙◌}
use Prim.Native.Nat.{◌-◌}
use native.Mathlib.Omega.{arith}
use Rattle.end.proofs.RiseLaws.{filled_none, filled_more}
use Rattle.rises.proofs.request_all.Invariants.{new}
use Rattle.rises.proofs.request_all.Goals as goal

pub loop-i-init : goal.loop-i-init
loop-i-init c = refl

pub fresh_record-requires : goal.fresh_record-requires
fresh_record-requires c =
    record { ranges = c.requires.ranges; numbered = record { number = omega arith; draws_in = c.requires.draws_len.0 } }

pub loop-i-preserved : goal.loop-i-preserved
loop-i-preserved c =
    let a = c.args in
    let l = c.loop-i in
    rw (c.place.ensures, c.fresh_record.ensures)
    (sym (filled_more (new a.t a.draws.now a.d a.x) a.to l.i l.out (omega arith)) ∙ l.invariant)

pub returns : goal.returns
returns c =
    let a = c.args in
    let l = c.loop-i in
    sym (filled_none (new a.t a.draws.now a.d a.x) a.to l.i l.out (omega arith)) ∙ l.invariant
