-- `reasons::reason` meets its contract: the number of the first no, or the reason that the code finds, which is the first that holds.
use mathlib.Core.Path.{◌≡◌, sym, ap, subst, ◌∙◌}
use Rattle.message.specs.declared.Reading.{Reading}
use Rattle.message.specs.Message.{meaning_of}
use Rattle.end.specs.declared.Event.{Event}
use Rattle.end.specs.State.{with_clock}
use Rattle.end.specs.Event.{action_of}
use Rattle.end.specs.Why.{refused_as, because}
use Rattle.questions.specs.Read.{ReadAs}
use Rattle.taking.specs.Taking.{reading_for, is_probe, taken_as}
use Rattle.taking.proofs.ReadingLaws.{read_verdict, counts_as}
use Rattle.reasons.specs.Reason.{Heard, first_reason}
use Rattle.reasons.proofs.ReasonLaws.{own-passed, given, refused_why, unrefused_why}
use Rattle.reasons.proofs.reason.Goals as goal

pub unrefused_reason-requires : goal.unrefused_reason-requires
unrefused_reason-requires c =
    let reading : Reading = c.reading_for-reading.result in
    let read : let a = c.args in reading ≡ reading_for a.what a.bytes.now = c.reading_for-reading.ensures in
    let number : let a = c.args in c.refused_as-q.result ≡ refused_as a.e a.clock (action_of a.what a.cue a.bytes.now) = let a = c.args in c.refused_as-q.ensures a.bytes.now (subst (λ (r : Reading). ReadAs a.what r.verdict a.bytes.now) (sym (read)) (read_verdict a.what a.bytes.now)) in
    let counted : let a = c.args in c.taken_as-taken.result ≡ counts_as a.what a.bytes.now = let what = c.args.what in c.taken_as-taken.ensures ∙ ap (taken_as what) c.is_probe-probe.ensures ∙ ap (λ (r : Reading). taken_as what (is_probe r.verdict)) (read) in
    let a = c.args in
    let own = own-passed a.e a.clock (action_of a.what a.cue a.bytes.now) (sym number ∙ c.if-q-eq0.true) in
    subst (λ (what : Event). Heard what reading.message) (sym counted)
    (given a.e a.cue a.bytes.now a.what (ap (λ (r : Reading). r.message) read) own)

pub returns-then-q-eq0 : goal.returns-then-q-eq0
returns-then-q-eq0 c =
    let reading : Reading = c.reading_for-reading.result in
    let read : let a = c.args in reading ≡ reading_for a.what a.bytes.now = c.reading_for-reading.ensures in
    let number : let a = c.args in c.refused_as-q.result ≡ refused_as a.e a.clock (action_of a.what a.cue a.bytes.now) = let a = c.args in c.refused_as-q.ensures a.bytes.now (subst (λ (r : Reading). ReadAs a.what r.verdict a.bytes.now) (sym (read)) (read_verdict a.what a.bytes.now)) in
    let counted : let a = c.args in c.taken_as-taken.result ≡ counts_as a.what a.bytes.now = let what = c.args.what in c.taken_as-taken.ensures ∙ ap (taken_as what) c.is_probe-probe.ensures ∙ ap (λ (r : Reading). taken_as what (is_probe r.verdict)) (read) in
    let a = c.args in let it = unrefused_why a.e a.clock a.cue a.bytes.now reading.message a.what _ c.refused_as-q.result
    (ap (λ (r : Reading). r.message) read) number c.if-q-eq0.true
    (c.unrefused_reason.ensures ∙ ap (λ (what : Event). because (first_reason what (meaning_of reading.message) (with_clock a.e a.clock))) counted) in
    record { value = it.0; result_value = it.1 }

pub returns-else-q-eq0 : goal.returns-else-q-eq0
returns-else-q-eq0 c =
    let reading : Reading = c.reading_for-reading.result in
    let read : let a = c.args in reading ≡ reading_for a.what a.bytes.now = c.reading_for-reading.ensures in
    let number : let a = c.args in c.refused_as-q.result ≡ refused_as a.e a.clock (action_of a.what a.cue a.bytes.now) = let a = c.args in c.refused_as-q.ensures a.bytes.now (subst (λ (r : Reading). ReadAs a.what r.verdict a.bytes.now) (sym (read)) (read_verdict a.what a.bytes.now)) in
    let a = c.args in let it = refused_why a.e a.clock a.cue a.bytes.now a.what _ number c.if-q-eq0.false in
    record { value = it.0; result_value = it.1 }
