-- `display::heard` meets its contract: the tests are those of the definition.
use Rattle.display.proofs.CallLaws.{later-shows, first-shows, none-shows}
use Rattle.display.proofs.heard.Goals as goal

pub returns-then-is_some : goal.returns-then-is_some
returns-then-is_some c =
    let a = c.args in let it = later-shows a.d a.kind a.from a.name a.lead a.cue _ _ _ c.same_host-by_sender.ensures c.same_host.ensures
    c.is_some.ensures _ _ _ c.if-is_some.true (c.heard_later.ensures.value, c.heard_later.ensures.out_after) in
    record { value = it.0; out_after = it.1 }

pub returns-then-original : goal.returns-then-original
returns-then-original c =
    let a = c.args in let it = first-shows a.d a.kind a.from a.name a.lead a.cue _ _ _ c.same_host-by_sender.ensures c.same_host.ensures
    c.is_some.ensures _ _ _ c.if-is_some.false c.if-original.true (c.started.ensures.value, c.started.ensures.out_after) in
    record { value = it.0; out_after = it.1 }

pub returns-else-original : goal.returns-else-original
returns-else-original c =
    let a = c.args in let it = none-shows a.d a.kind a.from a.name a.lead a.cue _ _ _ c.same_host-by_sender.ensures c.same_host.ensures
    c.is_some.ensures _ _ c.if-is_some.false c.if-original.false c.passed_over.ensures in
    record { value = it.0; out_after = it.1 }
