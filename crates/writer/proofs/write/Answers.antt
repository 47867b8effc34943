-- `writer::write` meets its contract: the first no decides, and without one the message is put out.
use mathlib.Core.Path.{◌≡◌, sym}
use Rattle.message.specs.Message.{Saying}
use Rattle.message.specs.Question.{write_refusal}
use Rattle.message.proofs.QuestionLaws.{none-refused, refused-as}
use Rattle.writer.proofs.WriteLaws.{Promise, put-ready, no, yes-written}
use Rattle.writer.proofs.write.Goals as goal

pub put_message-requires : goal.put_message-requires
unfolding write_refusal
put_message-requires c =
    let a = c.args in
    put-ready a.m a.out.now (none-refused _ c.in-Ok.ensures)

pub returns-in-Ok : goal.returns-in-Ok
unfolding write_refusal
returns-in-Ok c =
    let a = c.args in
    let put = c.put_message in
    let it = yes-written (Saying a.m) a.out.now put.result put.new.out (none-refused _ c.in-Ok.ensures) put.ensures.value put.ensures.out_after in
    record { value = it.0; verdict_value = it.1.0; out_after = it.1.1 }

pub returns-in-Err : goal.returns-in-Err
unfolding write_refusal
returns-in-Err c =
    let a = c.args in
    let q = refused-as _ c.in-Err.ensures in
    let it = no (Saying a.m) a.out.now c.in-Err.field-0.0 q.0 q.1 in
    record { value = it.0; verdict_value = it.1.0; out_after = it.1.1 }
