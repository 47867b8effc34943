use mathlib.Core.Path.{◌≡◌}
use Prim.Native.Nat.{◌<◌}
use native.Mathlib.Numerals.{add-one}
use native.Mathlib.Omega.{arith}
use lib.ListN.{length}
use lib.Seq.{drop-cons, drop-length}
use Rattle.message.specs.Entry.{blank_echo}
use Rattle.message.specs.Question.{echo_in}
use Rattle.end.specs.Session.{measured}
use Rattle.session.proofs.Lists.{all_at}
use Rattle.session.proofs.Passes.{echo_in_lem}
use Rattle.session.proofs.measure.Goals as goal

pub by_echo-out-requires : goal.by_echo-out-requires
by_echo-out-requires c =
    let ticks = echo_in_lem _ (all_at echo_in c.args.echoes.now c.loop-x.x-index blank_echo c.requires.0 (omega arith)) in
    (ticks.0, ticks.1, c.requires.1)

pub loop-x-preserved : goal.loop-x-preserved
unfolding measured
loop-x-preserved c =
    let l = c.args.echoes.now in
    let i = c.loop-x.x-index in
    let h : i < length l = omega arith in
    rw (c.by_echo-out.ensures, add-one) (rw (drop-cons l i blank_echo h) at c.loop-x.invariant)

pub returns : goal.returns
unfolding measured
returns c =
    let l = c.args.echoes.now in
    let e : c.loop-x.x-index ≡ length l = omega arith in
    rw (e, drop-length l) at c.loop-x.invariant
