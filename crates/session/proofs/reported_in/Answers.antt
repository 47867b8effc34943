use mathlib.Core.Path.{◌≡◌}
use Prim.Native.Nat.{◌<◌}
use native.Mathlib.Numerals.{add-one}
use native.Mathlib.Omega.{arith}
use lib.ListN.{length}
use lib.Seq.{drop-cons, drop-length}
use Rattle.message.specs.Entry.{blank_report}
use Rattle.message.specs.Question.{report_in}
use Rattle.end.specs.Session.{reported_after}
use Rattle.session.proofs.Lists.{all_at}
use Rattle.session.proofs.Passes.{report_in_lem}
use Rattle.session.proofs.reported_in.Goals as goal

pub with_host-out-requires : goal.with_host-out-requires
with_host-out-requires c =
    (report_in_lem _ (all_at (report_in 65535) c.args.reports.now c.loop-r.r-index blank_report c.requires (omega arith))).0

pub loop-r-preserved : goal.loop-r-preserved
unfolding reported_after
loop-r-preserved c =
    let l = c.args.reports.now in
    let i = c.loop-r.r-index in
    let h : i < length l = omega arith in
    rw (c.with_host-out.ensures, add-one) (rw (drop-cons l i blank_report h) at c.loop-r.invariant)

pub returns : goal.returns
unfolding reported_after
returns c =
    let l = c.args.reports.now in
    let e : c.loop-r.r-index ≡ length l = omega arith in
    rw (e, drop-length l) at c.loop-r.invariant
