-- `panel::write_data` meets its contract: the writer's answer and output, for the message that holds the cue's own bytes.
use mathlib.Core.Path.{◌≡◌, sym, ◌∙◌}
use native.Mathlib.Omega.{arith}
use borrow.Author.Rules.{rules}
use Rattle.message.specs.Question.{refusal_of}
use Rattle.panel.proofs.AnswerLaws.{wrote_by, as_refused, its_length, as_written}
use Rattle.panel.proofs.write_data.Goals as goal

pub overflow_cast-result : goal.overflow_cast-result
overflow_cast-result c =
    let accepted : 0 ≡ refusal_of c.write-written.result.verdict = sym c.in-0.is ∙ c.number_of.ensures in
    let e = c.write-written.ensures in
    let wrote = wrote_by _ _ _ _ _ (omega arith) c.cue_bytes.ensures c.own_data-message.ensures e.value e.verdict_value e.out_after in
    let l = its_length _ _ _ _ _ wrote accepted in
    omega arith

pub returns-in-0 : goal.returns-in-0
returns-in-0 c =
    let accepted : 0 ≡ refusal_of c.write-written.result.verdict = sym c.in-0.is ∙ c.number_of.ensures in
    let e = c.write-written.ensures in
    let it = as_written _ _ _ _ _ (wrote_by _ _ _ _ _ (omega arith) c.cue_bytes.ensures c.own_data-message.ensures e.value e.verdict_value e.out_after) accepted in
    record { value = it.0; out_after = it.1 }

pub returns-in_default : goal.returns-in_default
returns-in_default c =
    let e = c.write-written.ensures in
    let wrote = wrote_by _ _ _ _ _ (omega arith) c.cue_bytes.ensures c.own_data-message.ensures e.value e.verdict_value e.out_after in
    let it = as_refused _ _ _ _ _ wrote c.number_of.result c.number_of.ensures (search rules) in
    record { value = it.0; out_after = it.1 }
