-- `receive::take_reports` meets its contract: each turn steps the source of its report.
use mathlib.Core.Path.{◌≡◌, refl}
use Prim.Native.Nat.{◌<◌}
use native.Mathlib.Omega.{arith}
use lib.ListN.{length, take, get_or}
use lib.Seq.{take-length}
use Rattle.message.specs.Entry.{blank_report}
use Rattle.message.specs.Question.{report_in}
use Rattle.end.specs.Session.{all_reported}
use Rattle.session.proofs.Lists.{all_at}
use Rattle.session.proofs.Passes.{report_in_lem}
use Rattle.receive.proofs.Reports.{reports-turn, report-counts, reports_ranges}
use Rattle.receive.proofs.take_reports.Goals as goal

pub loop-r-init : goal.loop-r-init
unfolding all_reported
loop-r-init c = (refl, c.requires.counts)

pub bounds-e-at : goal.bounds-e-at
bounds-e-at c =
    (report_in_lem _ (all_at (report_in 65535) c.args.reports.now c.loop-r.r-index blank_report c.requires.ranges_in (omega arith))).0

pub report-requires : goal.report-requires
report-requires c =
    let l = c.args.reports.now in
    let i = c.loop-r.r-index in
    let turn = report_in_lem _ (all_at (report_in 65535) l i blank_report c.requires.ranges_in (omega arith)) in
    let inv = c.loop-r.invariant in
    record {
      ranges = reports_ranges c.args.t c.args.draws.now (take i l) c.args.e.now c.loop-r.e c.requires.ready c.requires.moment inv.0 _ turn.0;
      numbered = record { number = turn.1; draws_in = c.requires.draws_in };
      counted = inv.1 _ turn.0;
    }

pub loop-r-preserved : goal.loop-r-preserved
loop-r-preserved c =
    let t = c.args.t in
    let us = c.args.draws.now in
    let l = c.args.reports.now in
    let i = c.loop-r.r-index in
    let h : i < length l = omega arith in
    let turn = report_in_lem _ (all_at (report_in 65535) l i blank_report c.requires.ranges_in h) in
    let inv = c.loop-r.invariant in (
      reports-turn t us l i (get_or l i blank_report) c.args.e.now c.loop-r.e c.report.result h refl inv.0 c.report.ensures,
      report-counts t us (get_or l i blank_report) c.loop-r.e c.report.result turn inv.1 c.report.ensures,
    )

pub returns : goal.returns
returns c =
    let l = c.args.reports.now in
    let e : c.loop-r.r-index ≡ length l = omega arith in
    record { left = rw (e, take-length l) at c.loop-r.invariant.0; counted = c.loop-r.invariant.1 }
