use Rattle.display.specs.Call.{Hear}
use Rattle.lent_display.proofs.CallLaws.{refused-lost, moved-lost}
use Rattle.lent_display.proofs.on_hear.Goals as goal

-- `lent_display::on_hear` meets its contract.
pub returns-then-is_refused : goal.returns-then-is_refused
returns-then-is_refused c =
    let a = c.args in let it = refused-lost (Hear a.bytes.now) a.clock a.s.now a.out.now _ c.get_display-d.result _ c.get_display-d.ensures c.hear-heard.ensures.value
    c.hear-heard.ensures.out_after c.requires.s_value _ c.is_refused.ensures a.lost.now c.if-is_refused.true in
    record { called = it.0; lost_after = it.1 }

pub returns : goal.returns
returns c =
    let a = c.args in let it = moved-lost (Hear a.bytes.now) a.clock a.s.now a.out.now _ c.get_display-d.result _ c.get_display-d.ensures c.hear-heard.ensures.value
    c.hear-heard.ensures.out_after c.requires.s_value _ c.is_refused.ensures _ a.lost.now _ c.if-is_refused.false c.put_display.ensures c.put_lost.ensures in
    record { called = it.0; lost_after = it.1 }
