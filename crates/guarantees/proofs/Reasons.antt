-- Where "request quiet" is named a request waits: the state is sound, and the name is inside first..last and not held.
use mathlib.Core.Path.{◌≡◌, refl, sym, ap, ◌∙◌}
use mathlib.Core.Bool.{Bool, true, false, cond, not, ◌&&◌}
use mathlib.Core.Option.{Option, none, some}
use Prim.Native.Nat.{ℕ, ◌≤◌, ◌<◌}
use native.Mathlib.Omega.{arith}
use lib.ListN.{length, get_or, get_or-eq_default}
use lib.Dec.{eqb}
use borrow.Author.Tests.{eqb-true, leb-true, ltb-false, not-true}
use Rattle.numbers.proofs.Cases.{by_order}
use Rattle.message.specs.Entry.{as_host}
use Rattle.message.proofs.QuestionLaws.{and_both}
use Rattle.end.specs.declared.Request.{Request}
use Rattle.end.specs.declared.Slot.{Slot}
use Rattle.end.specs.declared.Slot.TheVariants.{Empty, Held, Waiting}
use Rattle.end.specs.Parts.{Pair, Span, Closed, Open}
use Rattle.end.specs.declared.Record.{Record}
use Rattle.end.specs.declared.Source.{Source}
use Rattle.end.specs.declared.Says.{Says}
use Rattle.end.specs.declared.Says.TheVariants.{Data, Rqst, Repl, Xprs}
use Rattle.end.specs.declared.Word.{Word}
use Rattle.end.specs.declared.Reason.TheVariants.{NotOpen, BelowFirst, RequestQuiet}
use Rattle.end.specs.declared.Why.{Why}
use Rattle.end.specs.declared.Why.TheVariants as why
use Rattle.end.specs.declared.End.{End}
use Rattle.end.specs.State.{no_source, source_at, with_clock}
use Rattle.end.specs.Records.{is_closed, within, is_below, is_above, is_held}
use Rattle.end.specs.Sound.{sound_of, inside_sound, outside_sound, record_sound}
use Rattle.end.specs.Decide.{number, known}
use Rattle.end.specs.Reasons.{is_data, is_request, is_quiet}
use Rattle.end.specs.Event.{Action, question_of}
use Rattle.end.specs.Why.{named_by, holds_of, refused_as, why_of}
use Rattle.end.proofs.Tools.{by_cond, clash, clash'}
use Rattle.end.proofs.RecordLaws.{within_in, at-inside}
use Rattle.end.proofs.Facts.{facts}
use Rattle.end.proofs.ReasonLaws.{reason_is_first}
use Rattle.invariants.proofs.Questions.{Passed, passes}
use Rattle.guarantees.specs.Records.{request_in}
use Rattle.guarantees.specs.Reasons.{RequestQuietWaits}

not_data : (says : Says) → is_request says ≡ true → is_data says ≡ false
not_data Data p = clash' p
not_data Rqst p = refl
not_data Repl p = refl
not_data Xprs p = refl

-- inside first..last, as the two tests before and "up to last" say
inside : (x : Span) (n : ℕ) → is_closed x ≡ false → is_below x n ≡ false → is_above x n ≡ false → within x n ≡ true
inside Closed n c b a = clash c
inside (Open first last) n c b a = within_in first.0 last.0 n (ltb-false n first.0 b) (ltb-false last.0 n a)

-- of a sound record inside that is not held, a request waits
waits : (me : End) (s n : ℕ) (pair : Pair) (x : Span) (r : Record) (clock : ℕ) → record_sound me.host (as_host s) pair x n r ≡ true → within x n ≡ true
    → is_held r.slot ≡ false → is_quiet clock r.slot ≡ true → (q : Request) × (request_in r.slot ≡ some q) × (clock ≤ q.quiet)
waits me s n pair x r clock sound i lacks quiet =
    go r.slot (sym (ap (λ (t : Bool). cond t (inside_sound me.host (as_host s) pair r r.slot) (outside_sound r r.slot)) i) ∙ sound) lacks quiet
  where
    go : (y : Slot) → inside_sound me.host (as_host s) pair r y ≡ true → is_held y ≡ false → is_quiet clock y ≡ true
        → (q : Request) × (request_in y ≡ some q) × (clock ≤ q.quiet)
    go Empty t l k = clash' t
    go (Held reply) t l k = clash l
    go (Waiting q y) t l k = (q, refl, leb-true clock q.quiet k)

-- a span of a source that is not there is closed
there : (e : End) (s n : ℕ) → length e.sources ≡ 8 → within (get_or e.sources s no_source).span n ≡ true → s < 8
there e s n k i = by_order s 8 (λ l. l) (λ l. clash' (sym (ap (λ (x : Source). within x.span n) (get_or-eq_default e.sources no_source {n = s} (omega (arith, k, l)))) ∙ i))

module _ (e : End) (clock : ℕ) (sound : sound_of e ≡ true) where
  named : (o : Option Word) → holds_of (with_clock e clock) RequestQuiet o ≡ true → holds_of (with_clock e clock) NotOpen o ≡ false → holds_of (with_clock e clock) BelowFirst o ≡ false
      → (w : Word) × (q : Request) × (o ≡ some w) × (request_in (known w (source_at e w.name.source)).slot ≡ some q) × (clock ≤ q.quiet)
  named none h c b = clash' h
  named (some w) h c b =
      let s = source_at e w.name.source in
      let n = number w in
      let f = facts e sound in
      let a1 = and_both (is_request w.says) _ h in
      let a2 = and_both (not (is_held (known w s).slot)) _ a1.1 in
      let a3 = and_both (not (is_above s.span n)) _ a2.1 in
      let open_is : is_closed s.span ≡ false = sym (ap (λ (d : Bool). not d && is_closed s.span) (not_data w.says a1.0)) ∙ c in
      let i : within s.span n ≡ true = inside s.span n open_is b (not-true _ a3.0) in
      let hs = there e w.name.source.0 n f.sources i in
      let r = rw (sym (at-inside s n i)) at (f.records w.name.source.0 n hs i) in
      let k = waits e w.name.source.0 n s.pair s.span (known w s) clock r i (not-true _ a2.0) a3.1 in
      (w, k.0, refl, k.1, k.2)

unrefused : (e : End) (clock : ℕ) (a : Action) → why_of e clock a ≡ why.Because RequestQuiet → refused_as e clock a ≡ 0
unfolding why_of
unrefused e clock a = by_cond (λ (x : Why). x ≡ why.Because RequestQuiet → refused_as e clock a ≡ 0) (eqb (refused_as e clock a) 0)
    (λ t p. eqb-true _ _ t) (λ t p. let z : ◌≡◌ {A = ℕ} 0 1 = cc in absurd (omega arith))

passed : (e : End) (clock : ℕ) (a : Action) → refused_as e clock a ≡ 0 → Passed e a clock
unfolding question_of
passed e clock a z = passes e a clock 128 64 z

pub request_quiet_waits : RequestQuietWaits
request_quiet_waits e clock a p =
    let first = reason_is_first e clock a RequestQuiet p in
    named e clock (passed e clock a (unrefused e clock a p)).sound (named_by a (with_clock e clock)) first.0 (first.1 NotOpen (omega arith)) (first.1 BelowFirst (omega arith))
