-- `frame::answer` meets its contract: refused, crashed, taken or not.
use mathlib.Core.Path.{◌≡◌, sym, ap, subst, ◌∙◌}
use mathlib.Core.Bool.{true}
use lib.ListN.{length}
use Rattle.message.specs.declared.Reading.{Reading}
use Rattle.message.specs.Message.{meaning_of}
use Rattle.end.specs.declared.Event.{Event}
use Rattle.end.specs.State.{with_clock}
use Rattle.end.specs.Answer.{Step, Did, done, called_of, buffer_of}
use Rattle.questions.specs.Read.{ReadAs}
use Rattle.taking.specs.Taking.{is_probe, taken_as, takes}
use Rattle.taking.proofs.ReadingLaws.{read_verdict, counts_as}
use Rattle.acting.specs.Acting.{acted, Acting}
use Rattle.frame.proofs.CallLaws.{refused, crashed, rested, given, taken}
use Rattle.frame.proofs.answer.Goals as goal

pub returns-then-number-ne0 : goal.returns-then-number-ne0
returns-then-number-ne0 c bytes p =
    let a = c.args in
    let asked = c.refusal-number.ensures bytes (subst (λ (r : Reading). ReadAs a.what r.verdict bytes) (sym p) (read_verdict a.what bytes)) in
    refused a.e.now a.what a.cue bytes a.clock a.draws.now a.out.now _ asked c.if-number-ne0.true

pub returns-then-is_crashed : goal.returns-then-is_crashed
returns-then-is_crashed c bytes p =
    let a = c.args in
    let asked = c.refusal-number.ensures bytes (subst (λ (r : Reading). ReadAs a.what r.verdict bytes) (sym p) (read_verdict a.what bytes)) in
    crashed a.e.now a.what a.cue bytes a.clock a.draws.now a.out.now (sym asked ∙ c.if-number-ne0.false) (sym c.is_crashed.ensures ∙ c.if-is_crashed.true)

pub act-requires : goal.act-requires
act-requires c =
    let a = c.args in
    let bytes = c.requires.0 in
    let p = c.requires.1 in
    let asked = c.refusal-number.ensures bytes (subst (λ (r : Reading). ReadAs a.what r.verdict bytes) (sym p) (read_verdict a.what bytes)) in
    let counted : c.taken_as-taken.result ≡ counts_as a.what bytes =
    c.taken_as-taken.ensures ∙ ap (taken_as a.what) (c.is_probe.ensures ∙ ap (λ (r : Reading). is_probe r.verdict) p) in
    let t : takes (counts_as a.what bytes) a.e.now.status ≡ true =
    sym (ap (λ (ev : Event). takes ev a.e.now.status) counted) ∙ sym c.takes.ensures ∙ c.if-takes.true in
    subst (λ (ev : Event). Acting ev (with_clock a.e.now a.clock) a.reading.message (length a.draws.now) (length a.out.now)) (sym counted)
    (given a.e.now a.what a.cue bytes a.clock a.draws.now a.out.now (sym asked ∙ c.if-number-ne0.false) a.reading.message
    (ap (λ (r : Reading). r.message) p) t)

pub returns-then-takes : goal.returns-then-takes
returns-then-takes c bytes p =
    let a = c.args in
    let asked = c.refusal-number.ensures bytes (subst (λ (r : Reading). ReadAs a.what r.verdict bytes) (sym p) (read_verdict a.what bytes)) in
    let counted : c.taken_as-taken.result ≡ counts_as a.what bytes =
    c.taken_as-taken.ensures ∙ ap (taken_as a.what) (c.is_probe.ensures ∙ ap (λ (r : Reading). is_probe r.verdict) p) in
    let t : takes (counts_as a.what bytes) a.e.now.status ≡ true =
    sym (ap (λ (ev : Event). takes ev a.e.now.status) counted) ∙ sym c.takes.ensures ∙ c.if-takes.true in
    let same : acted a.draws.now c.taken_as-taken.result a.cue (meaning_of a.reading.message) (with_clock a.e.now a.clock)
    ≡ acted a.draws.now (counts_as a.what bytes) a.cue (meaning_of a.reading.message) (with_clock a.e.now a.clock) =
    ap (λ (ev : Event). acted a.draws.now ev a.cue (meaning_of a.reading.message) (with_clock a.e.now a.clock)) counted in
    taken a.e.now a.what a.cue bytes a.clock a.draws.now a.out.now (sym asked ∙ c.if-number-ne0.false) a.reading.message _ c.act.new.out
    (ap (λ (r : Reading). r.message) p) (sym c.is_crashed.ensures ∙ c.if-is_crashed.false) t
    (sym (ap (λ (y : Step). called_of (done y)) same) ∙ c.act.ensures.value)
    (c.act.ensures.out_after ∙ ap (λ (y : Step). buffer_of (Did y.effect) a.out.now) same)

pub returns-else-takes : goal.returns-else-takes
returns-else-takes c bytes p =
    let a = c.args in
    let asked = c.refusal-number.ensures bytes (subst (λ (r : Reading). ReadAs a.what r.verdict bytes) (sym p) (read_verdict a.what bytes)) in
    let counted : c.taken_as-taken.result ≡ counts_as a.what bytes =
    c.taken_as-taken.ensures ∙ ap (taken_as a.what) (c.is_probe.ensures ∙ ap (λ (r : Reading). is_probe r.verdict) p) in
    rested a.e.now a.what a.cue bytes a.clock a.draws.now a.out.now (sym asked ∙ c.if-number-ne0.false) (sym c.is_crashed.ensures ∙ c.if-is_crashed.false)
    (sym (ap (λ (ev : Event). takes ev a.e.now.status) counted) ∙ sym c.takes.ensures ∙ c.if-takes.false)
