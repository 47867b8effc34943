use Prim.Native.Nat.{◌-◌}
use native.Mathlib.Omega.{arith}
use Rattle.interpreter.proofs.FeedLaws.{none-taken, Goes, goes_on, all-taken, line_taken, line_less}
use borrow.Author.Rules.{rules}
use Rattle.interpreter.proofs.feed.Goals as goal

pub loop-at-init : goal.loop-at-init
loop-at-init c = none-taken _ _ _ _ _ _ (search rules)

pub overflow_sub-out : goal.overflow_sub-out
overflow_sub-out c = let i = c.loop-at.invariant in omega (arith, i.inside, i.same)

pub turn-turned-requires : goal.turn-turned-requires
turn-turned-requires c =
    let test : let l = c.loop-at in Goes l.at c.args.piece.now l.used l.out l.stopped = let l = c.loop-at in goes_on l.at _ l.used l.out l.stopped c.loop-at-test.true in
    let i = c.loop-at.invariant in
    let g = test in
    omega (arith, i.inside, i.same, g.room)

pub loop-at-smaller : goal.loop-at-smaller
loop-at-smaller c =
    let test : let l = c.loop-at in Goes l.at c.args.piece.now l.used l.out l.stopped = let l = c.loop-at in goes_on l.at _ l.used l.out l.stopped c.loop-at-test.true in
    let g = test in
    omega (arith, g.left, line_less c.loop-at.invariant g c.take_line-cut.ensures.value c.take_line-cut.ensures.line_after c.turn-turned.ensures)

pub loop-at-preserved : goal.loop-at-preserved
loop-at-preserved c =
    let test : let l = c.loop-at in Goes l.at c.args.piece.now l.used l.out l.stopped = let l = c.loop-at in goes_on l.at _ l.used l.out l.stopped c.loop-at-test.true in
    line_taken c.loop-at.invariant test c.take_line-cut.ensures.value c.take_line-cut.ensures.line_after c.turn-turned.ensures

pub returns : goal.returns
returns c = all-taken c.loop-at.invariant c.loop-at-test.false
