use mathlib.Core.Path.{◌≡◌, refl, sym, ap, ◌∙◌}
use mathlib.Core.List.{◌∷◌, ◌++◌}
use Prim.Native.Nat.{ℕ, suc, ◌+◌, ◌<◌}
use native.Mathlib.Omega.{arith}
use lib.ListN.{length, take, drop, length-set}
use lib.Seq.{take-set-le, set_split}
use Rattle.numbers.specs.Splice.{splice}
use Rattle.decimal.specs.Decimal.{decimal}
use Rattle.decimal.proofs.DecimalLaws.{decimal-one, length-one, length_more, length-least, digits_step}
use Rattle.decimal.proofs.put_digits.Goals as goal

pub loop-left-init : goal.loop-left-init
loop-left-init c = (c.requires.ends, omega arith, refl, refl, refl)

pub overflow_sub-i : goal.overflow_sub-i
overflow_sub-i c = omega (arith, length-least c.loop-left.left)

pub overflow_cast-out : goal.overflow_cast-out
overflow_cast-out c = omega arith

pub overflow_add-out : goal.overflow_add-out
overflow_add-out c = omega arith

pub bounds-out-i : goal.bounds-out-i
bounds-out-i c = omega (arith, length-least c.loop-left.left)

pub loop-left-smaller : goal.loop-left-smaller
loop-left-smaller c = omega arith

pub loop-left-preserved : goal.loop-left-preserved
loop-left-preserved c =
    let l = c.loop-left in
    let m = length_more l.left c.loop-left-test.true in
    let some = length-least l.left in (
      omega arith,
      omega arith,
      simp length-set l.invariant.2,
      take-set-le c.args.at l.out _ _ (omega arith) ∙ l.invariant.3,
      sym (digits_step l.out l.i l.left c.loop-left-test.true (omega arith) (omega arith)) ∙ l.invariant.4,
    )

pub overflow_cast-out-2 : goal.overflow_cast-out-2
overflow_cast-out-2 c = omega arith

pub overflow_add-out-2 : goal.overflow_add-out-2
overflow_add-out-2 c = omega arith

pub bounds-out-at : goal.bounds-out-at
bounds-out-at c = omega (arith, length-one c.loop-left.left c.loop-left-test.false)

pub shape_of-out : goal.shape_of-out
shape_of-out c = simp length-set c.loop-left.invariant.2

pub returns : goal.returns
unfolding splice
returns c =
    let s = c.before.before in
    let a = s.args in
    let l = c.loop-left in
    let o = decimal-one l.left c.loop-left-test.false in
    let i : l.i ≡ suc a.at = omega (arith, length-one l.left c.loop-left-test.false) in
    let h : a.at < length l.out = omega arith in
    let e : (48 + l.left) ∷ drop (suc a.at) l.out ≡ decimal a.n ++ drop a.end a.out.now = sym (λ k. o k ++ drop (i k) l.out) ∙ l.invariant.4 in
    set_split l.out a.at (48 + l.left) h
    ∙ (λ k. l.invariant.3 k ++ e k)
    ∙ ap (λ (k : ℕ). take a.at a.out.now ++ (decimal a.n ++ drop k a.out.now)) s.requires.ends
