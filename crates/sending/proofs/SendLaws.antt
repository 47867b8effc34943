-- Send as a step on the own source: what the rise of its last is given, and what the end then is.
use mathlib.Core.Path.{◌≡◌, sym, ap, ◌∙◌}
use Prim.Native.Nat.{ℕ, ◌+◌}
use mathlib.Core.List.{List}
use Rattle.message.specs.declared.CueNumber.{CueNumber}
use Rattle.end.specs.Parts.{Closed, Open}
use Rattle.end.specs.declared.Moment.{Moment}
use Rattle.end.specs.declared.Source.{Source}
use Rattle.end.specs.declared.End.{End}
use Rattle.end.specs.State.{source_at, moment_of, with_source, with_next}
use Rattle.end.specs.Names.{rise, open_at}
use Rattle.end.specs.Event.{extended, sent_source, sent_end}
use Rattle.end.proofs.Ready.{ranges}
use Rattle.sending.specs.Given.{Sending, Rising}

-- the own source, by its first and last
module _ (t : Moment) (us : List ℕ) (n : ℕ) (s x : Source) where
  pub first-sent : s.span ≡ Closed → x ≡ open_at n s → x ≡ extended t us n s s.span
  first-sent p q = q ∙ sym (ap (extended t us n s) p)

  pub later-sent : (first last : CueNumber) → s.span ≡ Open first last → x ≡ rise t us n s s.span → x ≡ extended t us n s s.span
  later-sent first last p q = q ∙ ap (rise t us n s) p ∙ sym (ap (extended t us n s) p)

-- of an end at its moment
module _ (e : End) {t : Moment} (moment : t ≡ moment_of e) where
  pub rising : {drawn bytes : ℕ} → Sending e drawn bytes → Rising t (source_at e e.host) e.next drawn
  rising given = record {
    source = rw moment (ranges e given.settled.ready e.host given.settled.host);
    numbered = record { number = given.next; draws_in = given.draws };
    counted = given.settled.counts e.host given.settled.host;
  }

  pub sent : (us cue : List ℕ) (s : Source) → s ≡ sent_source t us e.next cue (source_at e e.host)
      → with_next (with_source e e.host s) (e.next + 1) ≡ sent_end us cue e
  sent us cue s p =
      ap (λ (x : Source). with_next (with_source e e.host x) (e.next + 1))
      (p ∙ ap (λ (x : Moment). sent_source x us e.next cue (source_at e e.host)) moment)
