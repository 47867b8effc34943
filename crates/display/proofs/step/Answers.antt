-- `display::step` meets its contract: refused, or what a step does.
use mathlib.Core.Path.{refl, sym, ◌∙◌}
use native.Mathlib.Omega.{arith}
use Rattle.message.proofs.QuestionLaws.{none-refused, refused-as}
use Rattle.display.proofs.CallLaws.{ready, step_call, step-refused}
use Rattle.display.proofs.step.Goals as goal

pub stepped-requires : goal.stepped-requires
stepped-requires c = ready _ _ _ _ _ _ refl refl (none-refused _ (sym c.in-Ok.is ∙ c.asked.ensures))

pub returns-in-Ok : goal.returns-in-Ok
returns-in-Ok c =
    let it = step_call _ _ _ _ _ _ _ refl (none-refused _ (sym c.in-Ok.is ∙ c.asked.ensures)) refl (c.stepped.ensures.value, c.stepped.ensures.out_after) in
    record { value = it.0; out_after = it.1 }

pub returns-in-Err : goal.returns-in-Err
returns-in-Err c =
    let n = refused-as _ (sym c.in-Err.is ∙ c.asked.ensures) in
    let it = step-refused _ _ _ _ _ (sym n.1) (λ z. omega (arith, n.0)) c.refused.ensures in
    record { value = it.0; out_after = it.1 }
