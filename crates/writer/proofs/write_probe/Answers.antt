-- `writer::write_probe` meets its contract: the room decides, and neither answer changes a byte.
use Rattle.message.specs.Message.{Probe}
use Rattle.message.specs.Question.{write_refusal}
use Rattle.message.proofs.QuestionLaws.{none-refused, refused-as}
use Rattle.writer.proofs.WriteLaws.{no, yes-probe}
use Rattle.writer.proofs.write_probe.Goals as goal

pub returns-in-Ok : goal.returns-in-Ok
unfolding write_refusal
returns-in-Ok c =
    let out = c.args.out.now in
    let it = yes-probe out (none-refused _ c.in-Ok.ensures) in
    record { value = it.0; verdict_value = it.1.0; out_after = it.1.1 }

pub returns-in-Err : goal.returns-in-Err
unfolding write_refusal
returns-in-Err c =
    let out = c.args.out.now in
    let q = refused-as _ c.in-Err.ensures in
    let it = no Probe out c.in-Err.field-0.0 q.0 q.1 in
    record { value = it.0; verdict_value = it.1.0; out_after = it.1.1 }
