-- `transmit::fire_wait` meets its contract: by the slot of the wait's name.
use mathlib.Core.Path.{refl, sym, ap, subst, ◌∙◌}
use Rattle.message.specs.declared.Host.{Host}
use Rattle.message.specs.Message.{bytes_of}
use Rattle.end.specs.declared.Moment.{Moment}
use Rattle.end.specs.declared.Record.{Record}
use Rattle.end.specs.declared.Slot.TheVariants.{Held}
use Rattle.end.specs.State.{source_at, moment_of, with_source}
use Rattle.end.specs.Messages.{request_message, repair_message, express_message}
use Rattle.end.specs.Names.{set_round, quiet_reply}
use Rattle.end.specs.Answer.{Out, answer_of, buffer_of}
use Rattle.end.proofs.Ready.{ranges}
use Rattle.compose.proofs.PutLaws.{Answers}
use Rattle.compose.proofs.GiveLaws.{leaves}
use Rattle.transmit.proofs.FireLaws.{empty-fired, express-fired, request-fired, quiet-fired, reply-fired, requester_in}
use Rattle.transmit.proofs.fire_wait.Goals as goal

pub returns-in-Empty : goal.returns-in-Empty
unfolding answer_of buffer_of
returns-in-Empty c =
    rw (empty-fired c.args.draws.now c.args.e.now c.args.w (sym (ap (λ (r : Record). r.slot) c.record_at-r.ensures) ∙ c.in-Empty.is))
    (record { value = refl; out_after = refl })

pub returns-then-rank-eq-EXPRESS : goal.returns-then-rank-eq-EXPRESS
returns-then-rank-eq-EXPRESS c =
    let e = c.args.e.now in
    let w = c.args.w in
    let out = c.args.out.now in
    let r = c.put_name.result in
    let last = c.put_name.new.out in
    let slot = sym (ap (λ (x : Record). x.slot) c.record_at-r.ensures) ∙ c.in-Waiting.is in
    let said = subst (λ (t : Moment). Answers (Out (bytes_of (express_message t w.name c.kept_sender.result))) r out last) c.moment_of-t.ensures
    (c.put_name.ensures.value, c.put_name.ensures.out_after) in
    let it = leaves r (with_source e w.name.source c.drop_express.result) out last
    (express-fired c.args.draws.now e w _ _ slot c.if-rank-eq-EXPRESS.true)
    (subst (λ (h : Host). Answers (Out (bytes_of (express_message (moment_of e) w.name h))) r out last) c.kept_sender.ensures said)
    (ap (with_source e w.name.source) c.drop_express.ensures) in
    record { value = it.0; out_after = it.1 }

pub set_round-requires-clause-ranges : goal.set_round-requires-clause-ranges
set_round-requires-clause-ranges c =
    rw c.moment_of-t.ensures (ranges c.args.e.now c.requires.firing.settled.ready c.args.w.name.source c.requires.source)

pub returns-else-rank-eq-EXPRESS : goal.returns-else-rank-eq-EXPRESS
returns-else-rank-eq-EXPRESS c =
    let e = c.args.e.now in
    let w = c.args.w in
    let us = c.args.draws.now in
    let out = c.args.out.now in
    let r = c.put_name-else-rank-eq-EXPRESS.result in
    let last = c.put_name-else-rank-eq-EXPRESS.new.out in
    let slot = sym (ap (λ (x : Record). x.slot) c.record_at-r.ensures) ∙ c.in-Waiting.is in
    let it = leaves r (with_source e w.name.source c.set_round.result) out last
    (request-fired us e w _ _ slot c.if-rank-eq-EXPRESS.false)
    (subst (λ (t : Moment). Answers (Out (bytes_of (request_message t w.name))) r out last) c.moment_of-t.ensures
    (c.put_name-else-rank-eq-EXPRESS.ensures.value, c.put_name-else-rank-eq-EXPRESS.ensures.out_after))
    (ap (with_source e w.name.source)
    (c.set_round.ensures ∙ λ i. set_round (c.moment_of-t.ensures i) us w.name.number.0 (c.next_round.ensures i) (source_at e w.name.source))) in
    record { value = it.0; out_after = it.1 }

pub returns-in_default : goal.returns-in_default
unfolding answer_of buffer_of
returns-in_default c =
    rw (quiet-fired c.args.draws.now c.args.e.now c.args.w (sym (ap (λ (x : Record). x.slot) c.record_at-r.ensures) ∙ c.in-Held.is ∙ ap Held c.in_default.is))
    (record { value = refl; out_after = refl })

pub bounds-e-requester : goal.bounds-e-requester
bounds-e-requester c =
    requester_in c.args.draws.now c.args.e.now c.args.w c.requires.firing.settled c.requires.source _ _
    (sym (ap (λ (x : Record). x.slot) c.record_at-r.ensures) ∙ c.in-Held.is ∙ ap Held c.in-Some.is)

pub quiet_reply-requires : goal.quiet_reply-requires
quiet_reply-requires c =
    let asker = requester_in c.args.draws.now c.args.e.now c.args.w c.requires.firing.settled c.requires.source _ _
    (sym (ap (λ (x : Record). x.slot) c.record_at-r.ensures) ∙ c.in-Held.is ∙ ap Held c.in-Some.is) in
    rw c.moment_of-t.ensures (ranges c.args.e.now c.requires.firing.settled.ready c.in-Some.requester asker)

pub returns-in-Some : goal.returns-in-Some
returns-in-Some c =
    let e = c.args.e.now in
    let w = c.args.w in
    let out = c.args.out.now in
    let to = c.in-Some.requester in
    let r = c.put_name-in-Held.result in
    let last = c.put_name-in-Held.new.out in
    let slot = sym (ap (λ (x : Record). x.slot) c.record_at-r.ensures) ∙ c.in-Held.is ∙ ap Held c.in-Some.is in
    let said = subst (λ (t : Moment). Answers (Out (bytes_of (repair_message t w.name to c.record_at-r.result.cue))) r out last) c.moment_of-t.ensures
    (c.put_name-in-Held.ensures.value, c.put_name-in-Held.ensures.out_after) in
    let it = leaves r (with_source e w.name.source c.quiet_reply.result) out last
    (reply-fired c.args.draws.now e w _ to slot)
    (subst (λ (x : Record). Answers (Out (bytes_of (repair_message (moment_of e) w.name to x.cue))) r out last) c.record_at-r.ensures said)
    (ap (with_source e w.name.source)
    (c.quiet_reply.ensures ∙ ap (λ (t : Moment). quiet_reply t w.name.number.0 (source_at e to).distance (source_at e w.name.source)) c.moment_of-t.ensures)) in
    record { value = it.0; out_after = it.1 }
