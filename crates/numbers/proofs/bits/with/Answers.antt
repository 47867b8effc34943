use mathlib.Core.Path.{◌≡◌, sym, ◌∙◌}
use mathlib.Core.Bool.{false}
use Rattle.numbers.specs.Bits.{bit}
use Rattle.numbers.proofs.BitLaws.{with_in, with_shift, with_below}
use Rattle.numbers.proofs.bits.with.Goals as goal

-- `numbers::bits::with` meets its contract: a set within 64 digits stays within them, so the sum does not wrap.
new : (c : goal.Else-has) → bit c.args.set c.args.i ≡ false
new c = sym c.has.ensures ∙ c.if-has.false

pub overflow_add-result : goal.overflow_add-result
overflow_add-result c =
    let s = c.before.before in
    let a = s.args in
    rw (with_shift a.set a.i s.requires (new c)) (record { fits = with_below a.set a.i 64 s.ranges.set.fits s.requires })

pub returns-then-has : goal.returns-then-has
returns-then-has c =
    let a = c.args in
    sym (with_in a.set a.i (sym c.has.ensures ∙ c.if-has.true))

pub returns-else-has : goal.returns-else-has
returns-else-has c =
    let s = c.before.before in
    with_shift s.args.set s.args.i s.requires (new c)
