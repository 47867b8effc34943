use native.Mathlib.Omega.{arith}
use Rattle.timetable.proofs.FeedLaws.{none-taken, goes_on, all-taken, byte_taken}
use Rattle.timetable.proofs.feed.Goals as goal

pub loop-at-init : goal.loop-at-init
loop-at-init c = none-taken _ _ _

pub overflow_sub-out : goal.overflow_sub-out
overflow_sub-out c = let i = c.loop-at.invariant in omega (arith, i.inside, i.same)

pub bounds-piece-at : goal.bounds-piece-at
bounds-piece-at c =
    (goes_on c.loop-at.at c.args.piece.now c.loop-at.used c.loop-at.out c.loop-at.p.stopped c.loop-at-test.true).left

pub take_byte-s-requires : goal.take_byte-s-requires
take_byte-s-requires c =
    let g = goes_on c.loop-at.at c.args.piece.now c.loop-at.used c.loop-at.out c.loop-at.p.stopped c.loop-at-test.true in record { stopped_value = g.plays; widest_in_bounds = omega (arith, c.loop-at.invariant.inside, c.loop-at.invariant.same, g.room) }

pub overflow_add-at : goal.overflow_add-at
overflow_add-at c =
    let g = goes_on c.loop-at.at c.args.piece.now c.loop-at.used c.loop-at.out c.loop-at.p.stopped c.loop-at-test.true in
    omega (arith, g.left)

pub loop-at-smaller : goal.loop-at-smaller
loop-at-smaller c =
    let g = goes_on c.loop-at.at c.args.piece.now c.loop-at.used c.loop-at.out c.loop-at.p.stopped c.loop-at-test.true in
    omega (arith, g.left)

pub loop-at-preserved : goal.loop-at-preserved
loop-at-preserved c =
    let g = goes_on c.loop-at.at c.args.piece.now c.loop-at.used c.loop-at.out c.loop-at.p.stopped c.loop-at-test.true in
    byte_taken c.loop-at.invariant g c.take_byte-s.ensures

pub shape_of-out : goal.shape_of-out
shape_of-out c = c.loop-at.invariant.same

pub returns : goal.returns
returns c = all-taken c.loop-at.invariant c.loop-at-test.false
