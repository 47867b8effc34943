-- `receive::arrival` meets its contract: the reports step their sources, and the last step is the definition's.
use mathlib.Core.Path.{refl}
use Prim.Native.Nat.{◌<◌}
use lib.ListN.{length}
use Rattle.message.specs.Message.{meaning_of}
use Rattle.end.specs.State.{distance_to}
use Rattle.receive.proofs.Arriving.{Known, known, hearing-on, gives}
use Rattle.receive.proofs.Passes.{asker_in_lem, subject_in}
use Rattle.receive.proofs.arrival.Goals as goal

pub bounds-e-asker_in : goal.bounds-e-asker_in
bounds-e-asker_in c = rw c.asker_in.ensures (asker_in_lem (meaning_of c.args.m) c.requires.passed.ranges_in)

pub take_reports-requires : goal.take_reports-requires
take_reports-requires c =
    let facts : let a = c.args in Known a.e.now a.m (length a.draws.now) (length a.out.now) c.moment_of-t.result (distance_to a.e.now c.asker_in.result) c.report_count-count.result =
    known _ _ _ _ _ c.asker_in.result _ _ c.requires c.moment_of-t.ensures c.asker_in.ensures refl c.report_count-count.ensures in
    record {
      moment = c.moment_of-t.ensures;
      ready = c.requires.ready;
      counts = c.requires.counts;
      draws_in = c.requires.passed.draws_in;
      ranges_in = facts.reports_in_lem;
    }

pub bounds-e-at : goal.bounds-e-at
bounds-e-at c = rw c.subject_of-at.ensures (subject_in (meaning_of c.args.m) c.requires.passed.ranges_in)

pub step_source-requires : goal.step_source-requires
step_source-requires c =
    let facts : let a = c.args in Known a.e.now a.m (length a.draws.now) (length a.out.now) c.moment_of-t.result (distance_to a.e.now c.asker_in.result) c.report_count-count.result =
    known _ _ _ _ _ c.asker_in.result _ _ c.requires c.moment_of-t.ensures c.asker_in.ensures refl c.report_count-count.ensures in
    let subject : c.subject_of-at.result.0 < 8 = rw c.subject_of-at.ensures (subject_in (meaning_of c.args.m) c.requires.passed.ranges_in) in
    hearing-on facts c.args.draws.now _ c.take_reports.ensures.left _ c.take_reports.ensures.counted subject

pub returns : goal.returns
returns c =
    let facts : let a = c.args in Known a.e.now a.m (length a.draws.now) (length a.out.now) c.moment_of-t.result (distance_to a.e.now c.asker_in.result) c.report_count-count.result =
    known _ _ _ _ _ c.asker_in.result _ _ c.requires c.moment_of-t.ensures c.asker_in.ensures refl c.report_count-count.ensures in
    let it = gives facts c.args.draws.now _ c.take_reports.ensures.left _ c.step_source.result c.step_source.new.s c.args.out.now c.step_source.new.out
    c.subject_of-at.ensures c.step_source.ensures.value c.step_source.ensures.source c.step_source.ensures.out_after in
    record { value = it.0; out_after = it.1 }
