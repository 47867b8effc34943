use mathlib.Core.Path.{refl, sym, ◌∙◌}
use lib.ListN.{length-set}
use borrow.Author.Tests.{ne_eqb}
use Rattle.record.specs.Line.{cue_word}
use Rattle.record.proofs.HexLaws.{none_read, pair_read_lem, all_read, cue_read}
use native.Mathlib.Omega.{arith}
use Rattle.record.proofs.cue_in.Goals as goal

pub returns-then-w-ne48 : goal.returns-then-w-ne48
unfolding cue_word
returns-then-w-ne48 c = sym (simp (ne_eqb _ _ c.if-w-ne48.true))

pub loop-i-init : goal.loop-i-init
loop-i-init c = none_read _ _ c.if-w-ne48.false refl

pub overflow_mul-high : goal.overflow_mul-high
overflow_mul-high c = omega (arith, c.loop-i.invariant.within)

pub bounds-w-i : goal.bounds-w-i
bounds-w-i c = omega (arith, c.loop-i.invariant.digits)

pub overflow_mul-low : goal.overflow_mul-low
overflow_mul-low c = omega arith

pub overflow_add-low : goal.overflow_add-low
overflow_add-low c = omega arith

pub bounds-w-i-in-loop-i : goal.bounds-w-i-in-loop-i
bounds-w-i-in-loop-i c = omega (arith, c.loop-i.invariant.digits)

pub bounds-cue-i : goal.bounds-cue-i
bounds-cue-i c = omega arith

pub loop-i-preserved : goal.loop-i-preserved
loop-i-preserved c =
    let l = c.loop-i in
    pair_read_lem l.invariant _ _ _ (omega arith) c.is_hex.ensures c.is_hex-in-loop-i.ensures c.pair.ensures (simp length-set l.invariant.bytes)

pub returns-then-ok-fits : goal.returns-then-ok-fits
returns-then-ok-fits c =
    let l = c.loop-i in
    let all = all_read l.invariant (omega arith) in
    let t = c.if-ok-fits.true in
    sym (simp t) ∙ cue_read _ _ _ _ l.invariant.digits all.0 all.1 c.cue_in-fits.ensures

pub returns-else-ok-fits : goal.returns-else-ok-fits
returns-else-ok-fits c =
    let l = c.loop-i in
    let all = all_read l.invariant (omega arith) in
    let t = c.if-ok-fits.false in
    sym (simp t) ∙ cue_read _ _ _ _ l.invariant.digits all.0 all.1 c.cue_in-fits.ensures
