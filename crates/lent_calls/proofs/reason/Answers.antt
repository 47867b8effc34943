use mathlib.Core.Path.{refl, sym, ap, ◌∙◌}
use native.Mathlib.Omega.{arith}
use Rattle.lent_end.proofs.StateLaws.{state-long}
use Rattle.lent_calls.specs.Arguments.{event_of}
use Rattle.lent_calls.specs.Reason.{why_number}
use Rattle.lent_calls.proofs.ReasonLaws.{no_event, no_state, on_a_state, same_why}
use Rattle.lent_calls.proofs.reason.Goals as goal

-- `lent_calls::reason` meets its contract: an event that there is, bytes that are a state, then the call on the end.
pub returns-then-what-gt10 : goal.returns-then-what-gt10
returns-then-what-gt10 c =
    let a = c.args in
    c.of_kind.ensures ∙ no_event a.clock a.what a.source a.number a.bytes.now a.state.now c.if-what-gt10.true

pub get_end-e-requires : goal.get_end-e-requires
get_end-e-requires c =
    let a = c.args in
    state-long a.state.now (sym c.is_state-ok.ensures ∙ c.if-ok.true)

pub returns-then-ok : goal.returns-then-ok
returns-then-ok c =
    let a = c.args in
    let why = c.why_number.ensures ∙ ap why_number (c.reason-w.ensures.value ∙ same_why a.clock a.bytes.now c.get_end-e.ensures
    (c.event_of-ev.ensures ∙ ap (event_of a.what) c.name_of-name.ensures) c.cue_of-cue.ensures) in
    on_a_state a.clock a.what a.source a.number a.bytes.now a.state.now (omega (arith, c.if-what-gt10.false)) _ c.is_state-ok.ensures _ c.if-ok.true why

pub returns : goal.returns
returns c =
    let a = c.args in
    no_state a.clock a.what a.source a.number a.bytes.now a.state.now (omega (arith, c.if-what-gt10.false)) _ c.is_state-ok.ensures _ refl c.if-ok.false
