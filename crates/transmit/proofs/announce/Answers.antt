use mathlib.Core.Path.{refl, ap, subst}
use Rattle.message.specs.Message.{bytes_of}
use Rattle.end.specs.declared.Moment.{Moment}
use Rattle.end.specs.Parts.{Span}
use Rattle.end.specs.State.{moment_of}
use Rattle.end.specs.Messages.{announce_message}
use Rattle.end.specs.Event.{announced}
use Rattle.end.specs.Answer.{Out, answer_of, buffer_of}
use Rattle.compose.proofs.PutLaws.{Answers}
use Rattle.compose.proofs.GiveLaws.{leaves}
use Rattle.transmit.proofs.announce.Goals as goal

-- `transmit::announce` meets its contract: what the own span has goes out, and the end stays.
pub returns-in-None : goal.returns-in-None
unfolding answer_of buffer_of
returns-in-None c = rw c.in-None.is (record { value = refl; out_after = refl })

pub returns-in-Some : goal.returns-in-Some
returns-in-Some c =
    let e = c.args.e.now in
    let out = c.args.out.now in
    let last = c.put_announce.new.out in
    let it = leaves c.put_announce.result e out last (ap (λ (x : Span). announced (moment_of e) x e) c.in-Some.is)
    (subst (λ (t : Moment). Answers (Out (bytes_of (announce_message t c.in-Some.first c.in-Some.last))) c.put_announce.result out last) c.moment_of.ensures
    (c.put_announce.ensures.value, c.put_announce.ensures.out_after))
    refl in
    record { value = it.0; out_after = it.1 }
