use mathlib.Core.Path.{◌≡◌, refl, sym, ◌∙◌}
use mathlib.Core.Bool.{true}
use Rattle.display.specs.Call.{Step}
use Rattle.lent_display.specs.Bytes.{is_display}
use Rattle.lent_display.proofs.DisplayLaws.{display_long}
use Rattle.lent_display.proofs.CallLaws.{no_room, no_display, on_display}
use Rattle.lent_display.proofs.step.Goals as goal

-- `lent_display::step` meets its contract: the questions in their order, then the call.
pub returns-then-out-lt-ROOM_NEEDED : goal.returns-then-out-lt-ROOM_NEEDED
returns-then-out-lt-ROOM_NEEDED c =
    let a = c.args in
    no_room Step a.clock _ a.s.now c.if-out-lt-ROOM_NEEDED.true a.out.now

pub on_step-answer-requires : goal.on_step-answer-requires
on_step-answer-requires c =
    let a = c.args in
    let k : is_display a.s.now ≡ true = sym c.is_display-ok.ensures ∙ c.if-ok.true in record { s_len = display_long a.s.now k; s_value = k }

pub returns-then-ok : goal.returns-then-ok
returns-then-ok c =
    let a = c.args in
    on_display Step a.clock _ a.s.now c.if-out-lt-ROOM_NEEDED.false _ c.is_display-ok.ensures c.if-ok.true refl
    c.on_step-answer.ensures c.number_of.ensures

pub returns : goal.returns
returns c =
    let a = c.args in
    no_display Step a.clock _ a.s.now c.if-out-lt-ROOM_NEEDED.false _ c.is_display-ok.ensures c.if-ok.false a.out.now
