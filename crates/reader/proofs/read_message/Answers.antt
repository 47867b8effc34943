-- `reader::read_message` meets its contract: the first no is that of questions 8 and 9, or else that of the message that was loaded.
use mathlib.Core.Path.{◌≡◌, ap, ◌∙◌}
use Prim.Native.Nat.{ℕ}
use borrow.Author.Rules.{rules}
use Rattle.std.specs.Prelude.{Result, Err}
use Rattle.message.specs.declared.Message.{Message}
use Rattle.message.specs.declared.Refusal.{Refusal}
use Rattle.message.specs.Message.{meaning_with, held_as}
use Rattle.message.proofs.QuestionLaws.{none-refused}
use Rattle.reader.proofs.ReadLaws.{passed, loadable, counts_no, meaning_no, meaning-yes}
use Rattle.reader.proofs.read_message.Goals as goal

pub returns-in_err-ask_counts : goal.returns-in_err-ask_counts
returns-in_err-ask_counts c =
    let e : ◌≡◌ {A = Result Message Refusal} c.from_residual.result (Err c.in_err-ask_counts.field-0.0) = search rules in
    e ∙ counts_no c.args.s.now c.requires c.in_err-ask_counts.ensures

pub load-m-requires : goal.load-m-requires
load-m-requires c = loadable c.args.s.now c.width_in-w.ensures c.counts_in-c.ensures (passed c.args.s.now (none-refused _ c.in_ok-ask_counts.ensures))

pub returns-in_err-ask_meaning : goal.returns-in_err-ask_meaning
returns-in_err-ask_meaning c =
    let s = c.args.s.now in
    let both = passed s (none-refused _ c.in_ok-ask_counts.ensures) in
    let held = c.load-m.ensures ∙ ap (λ (w : ℕ). held_as (meaning_with w s)) c.width_in-w.ensures.width in
    let e : ◌≡◌ {A = Result Message Refusal} c.from_residual-in_err-ask_meaning.result (Err c.in_err-ask_meaning.field-0.0) = search rules in
    e ∙ meaning_no s c.requires both c.load-m.result held c.in_err-ask_meaning.ensures

pub returns : goal.returns
returns c =
    let s = c.args.s.now in
    let both = passed s (none-refused _ c.in_ok-ask_counts.ensures) in
    let held = c.load-m.ensures ∙ ap (λ (w : ℕ). held_as (meaning_with w s)) c.width_in-w.ensures.width in
    meaning-yes s c.requires both c.load-m.result held c.in_ok-ask_meaning.ensures
