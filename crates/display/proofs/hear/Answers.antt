-- `display::hear` meets its contract: refused, or what the message that was read does.
use mathlib.Core.Path.{refl, sym, ap, ◌∙◌}
use native.Mathlib.Omega.{arith}
use Rattle.message.specs.declared.Reading.{Reading}
use Rattle.message.proofs.QuestionLaws.{none-refused, refused-as}
use Rattle.display.proofs.CallLaws.{ready, heard-call, hear-refused}
use Rattle.display.proofs.hear.Goals as goal

pub heard_message-requires : goal.heard_message-requires
heard_message-requires c = ready _ _ _ _ _ _ refl refl (none-refused _ (sym c.in-Ok.is ∙ c.asked.ensures))

pub returns-in-Ok : goal.returns-in-Ok
returns-in-Ok c =
    let w = c.read-reading.ensures in
    let it =
    heard-call _ _ _ _ _ _ _ _ _ _ w.verdict_value refl (none-refused _ (sym c.in-Ok.is ∙ c.asked.ensures)) refl
    (ap (λ (x : Reading). x.message) w.value) c.heard_message.ensures.value c.heard_message.ensures.out_after in
    record { value = it.0; out_after = it.1 }

pub returns-in-Err : goal.returns-in-Err
returns-in-Err c =
    let n = refused-as _ (sym c.in-Err.is ∙ c.asked.ensures) in
    let it = hear-refused _ _ _ _ _ _ _ c.read-reading.ensures.verdict_value (sym n.1) (λ z. omega (arith, n.0)) c.refused.ensures in
    record { value = it.0; out_after = it.1 }
