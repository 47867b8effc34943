-- `fetch::fetch` meets its contract: the nearest host is chosen, asked, and marked as tried.
use mathlib.Core.Path.{refl, sym, ap, subst, ◌∙◌}
use native.Mathlib.Omega.{arith}
use Rattle.message.specs.Message.{bytes_of}
use Rattle.end.specs.declared.Moment.{Moment}
use Rattle.end.specs.State.{with_source}
use Rattle.end.specs.Messages.{fetch_message}
use Rattle.end.specs.Answer.{Out, answer_of, buffer_of}
use Rattle.end.specs.Fetch.{fetch_of}
use Rattle.compose.proofs.PutLaws.{Answers}
use Rattle.compose.proofs.GiveLaws.{leaves}
use Rattle.fetch.proofs.FetchLaws.{Hosted, nearest_hosted, fetched-host, none-tried, one-tried}
use Rattle.fetch.proofs.fetch.Goals as goal

pub returns-then-not-may_fetch : goal.returns-then-not-may_fetch
unfolding fetch_of answer_of buffer_of
returns-then-not-may_fetch c = rw (sym c.may_fetch.ensures ∙ c.if-not-may_fetch.true) (record { value = refl; out_after = refl })

pub bounds-e-name : goal.bounds-e-name
bounds-e-name c = fetched-host c.args.e.now c.args.name (sym c.may_fetch.ensures ∙ c.if-not-may_fetch.false)

pub nearest-requires : goal.nearest-requires
nearest-requires c = fetched-host c.args.e.now c.args.name (sym c.may_fetch.ensures ∙ c.if-not-may_fetch.false)

pub returns-in_default : goal.returns-in_default
unfolding answer_of buffer_of
returns-in_default c =
    rw (none-tried c.args.e.now c.args.name (sym c.may_fetch.ensures ∙ c.if-not-may_fetch.false) _ _ c.attempt_at-was.ensures c.nearest.ensures c.in_default.is)
    (record { value = refl; out_after = refl })

pub try_host-requires : goal.try_host-requires
try_host-requires c =
    subst Hosted (sym c.nearest.ensures ∙ c.in-Some.is)
    (nearest_hosted c.args.e.now.host c.args.e.now.sources c.args.name.source c.attempt_at-was.result.tried 8 (omega arith))

pub returns : goal.returns
returns c =
    let e = c.args.e.now in
    let name = c.args.name in
    let out = c.args.out.now in
    let last = c.put_name.new.out in
    let it = leaves c.put_name.result (with_source e name.source c.try_host.result) out last
    (one-tried e name (sym c.may_fetch.ensures ∙ c.if-not-may_fetch.false) _ _ c.attempt_at-was.ensures c.nearest.ensures _ _ c.in-Some.is)
    (subst (λ (t : Moment). Answers (Out (bytes_of (fetch_message t name c.in-Some.h))) c.put_name.result out last) c.moment_of.ensures
    (c.put_name.ensures.value, c.put_name.ensures.out_after))
    (ap (with_source e name.source) c.try_host.ensures) in
    record { value = it.0; out_after = it.1 }
