-- `sending::send` meets its contract: the cue goes out as DATA, and the own source and the next number are the definition's.
use mathlib.Core.Path.{refl, subst}
use mathlib.Core.List.{[], ◌∷◌}
use Prim.Native.Nat.{◌+◌}
use Rattle.message.specs.Message.{DATA, bytes_of}
use Rattle.end.specs.declared.Moment.{Moment}
use Rattle.end.specs.State.{with_source, with_next}
use Rattle.end.specs.Messages.{about_name}
use Rattle.end.specs.Answer.{Out}
use Rattle.end.specs.Event.{own_name}
use Rattle.compose.proofs.PutLaws.{Answers}
use Rattle.compose.proofs.GiveLaws.{leaves}
use Rattle.sending.proofs.SendLaws.{rising, sent}
use Rattle.sending.proofs.send.Goals as goal

pub sent_source-requires : goal.sent_source-requires
sent_source-requires c = rising c.args.e.now c.moment_of-t.ensures c.requires

pub returns : goal.returns
returns c =
    let a = c.args in
    let e = a.e.now in
    let out = a.out.now in
    let last = c.put_name.new.out in
    let it = leaves c.put_name.result (with_next (with_source e e.host c.sent_source.result) (e.next + 1)) out last refl
    (subst (λ (x : Moment). Answers (Out (bytes_of (about_name DATA x (own_name e) e.host (a.cue ∷ [])))) c.put_name.result out last)
    c.moment_of-t.ensures (c.put_name.ensures.value, c.put_name.ensures.out_after))
    (sent e c.moment_of-t.ensures a.draws.now a.cue c.sent_source.result c.sent_source.ensures) in
    record { value = it.0; out_after = it.1 }
