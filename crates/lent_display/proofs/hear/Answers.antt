use mathlib.Core.Path.{◌≡◌, sym, ◌∙◌}
use mathlib.Core.Bool.{true}
use Rattle.lent_display.specs.Bytes.{is_display}
use Rattle.lent_display.proofs.DisplayLaws.{display_long}
use Rattle.lent_display.proofs.CallLaws.{room_out, room-lost, hear_short, hear-none, hear-on}
use Rattle.lent_display.proofs.hear.Goals as goal

-- `lent_display::hear` meets its contract: the questions in their order, then the call.
pub returns-then-out-lt-ROOM_NEEDED : goal.returns-then-out-lt-ROOM_NEEDED
returns-then-out-lt-ROOM_NEEDED c =
    let a = c.args in let it = hear_short a.bytes.now a.clock a.s.now a.lost.now a.out.now (room_out a.lost.now a.out.now c.if-out-lt-ROOM_NEEDED.true) in
    record { hear_is = it.0; lost_after = it.1 }

pub returns-then-lost-lt-LOST_PLACES : goal.returns-then-lost-lt-LOST_PLACES
returns-then-lost-lt-LOST_PLACES c =
    let a = c.args in let it = hear_short a.bytes.now a.clock a.s.now a.lost.now a.out.now (room-lost a.lost.now a.out.now c.if-lost-lt-LOST_PLACES.true) in
    record { hear_is = it.0; lost_after = it.1 }

pub on_hear-answer-requires : goal.on_hear-answer-requires
on_hear-answer-requires c =
    let a = c.args in
    let k : is_display a.s.now ≡ true = sym c.is_display-ok.ensures ∙ c.if-ok.true in record { s_len = display_long a.s.now k; s_value = k; lost_places_in_bounds = c.if-lost-lt-LOST_PLACES.false }

pub returns-then-ok : goal.returns-then-ok
returns-then-ok c =
    let a = c.args in let it = hear-on a.bytes.now a.clock a.s.now a.lost.now a.out.now c.if-out-lt-ROOM_NEEDED.false c.if-lost-lt-LOST_PLACES.false _ c.is_display-ok.ensures
    c.if-ok.true (c.on_hear-answer.ensures.called, c.on_hear-answer.ensures.lost_after) c.number_of.ensures in
    record { hear_is = it.0; lost_after = it.1 }

pub returns : goal.returns
returns c =
    let a = c.args in let it = hear-none a.bytes.now a.clock a.s.now a.lost.now a.out.now c.if-out-lt-ROOM_NEEDED.false c.if-lost-lt-LOST_PLACES.false _ c.is_display-ok.ensures
    c.if-ok.false in
    record { hear_is = it.0; lost_after = it.1 }
