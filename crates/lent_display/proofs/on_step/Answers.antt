use Rattle.display.specs.Call.{Step}
use Rattle.lent_display.proofs.CallLaws.{refused, moved}
use Rattle.lent_display.proofs.on_step.Goals as goal

-- `lent_display::on_step` meets its contract.
pub returns-then-is_refused : goal.returns-then-is_refused
returns-then-is_refused c =
    let a = c.args in
    refused Step a.clock a.s.now a.out.now _ c.get_display-d.result _ c.get_display-d.ensures c.step-stepped.ensures.value
    c.step-stepped.ensures.out_after c.requires.s_value _ c.is_refused.ensures c.if-is_refused.true

pub returns : goal.returns
returns c =
    let a = c.args in
    moved Step a.clock a.s.now a.out.now _ c.get_display-d.result _ c.get_display-d.ensures c.step-stepped.ensures.value
    c.step-stepped.ensures.out_after c.requires.s_value _ c.is_refused.ensures _ c.if-is_refused.false c.put_display.ensures
