-- What the equations of a rise's calls come to, over plain values: one law for each function. A proof finds the equations that its law asks
-- for by itself (`search`), so that it counts no positions; the proof of `risen` names them.
use mathlib.Core.Path.{◌≡◌, sym, ap, ◌∙◌}
use Prim.Native.Nat.{ℕ, ◌+◌, ◌-◌, ◌≤◌, min, max}
use native.Mathlib.Omega.{arith}
use mathlib.Core.Bool.{cond}
use mathlib.Core.List.{List}
use Rattle.message.specs.declared.CueNumber.{CueNumber}
use Rattle.message.specs.Entry.{as_number}
use Rattle.end.specs.Parts.{Express, Unset, Soon, Span, Open}
use Rattle.end.specs.declared.Record.{Record}
use Rattle.end.specs.declared.Source.{Source}
use Rattle.end.specs.declared.Moment.{Moment}
use Rattle.end.specs.Records.{is_held, raw_at}
use Rattle.end.specs.Names.{is_requester, expressed, asked, filled, lacking, holds_cue, rise_with, rise_by_data}
use Rattle.end.proofs.RecordLaws.{within_in, at-inside}
use Rattle.end.proofs.Lacking.{lacking-same}

module _ (new : ℕ → Record) (n : ℕ) (s : Source) (first last : CueNumber) where
  -- of first..last, what stands in a number's place is its record
  in_places : {old : ℕ} → s.span ≡ Open first last → old ≤ last.0 + 1
      → lacking (λ m. is_held (raw_at s.names m).slot) (old - first.0) first.0 ≡ lacking (holds_cue s) (old - first.0) first.0
  in_places {old} e most = lacking-same _ (holds_cue s) (old - first.0) first.0
      (λ j a b. ap (λ (r : Record). is_held r.slot) (sym (at-inside s j (rw e (within_in first.0 last.0 j a (omega arith))))))

  pub all-risen : {l floor lo old from lacked passed : ℕ} {names : List Record} → s.span ≡ Open first last
      → l ≡ max last.0 n → floor ≡ l - 63 → lo ≡ max first.0 floor → old ≡ min lo (last.0 + 1) → from ≡ max lo (last.0 + 1)
      → lacked ≡ lacking (λ m. is_held (raw_at s.names m).slot) (old - first.0) first.0 → passed ≡ lo - (last.0 + 1)
      → names ≡ filled new (l + 1 - from) from s.names
      → record {
        span = Open (as_number lo) (as_number l);
        missed = s.missed + lacked + passed;
        pair = s.pair;
        distance = s.distance;
        heard = s.heard;
        names = names;
        origin = s.origin;
        attempts = s.attempts;
      }
      ≡ rise_with new n s (Open first last)
  unfolding rise_with
  all-risen {old = k} e l floor lo old from lacked passed names =
      let most : k ≤ last.0 + 1 = omega (arith, old) in
      rw (names, passed, lacked, in_places e most, from, old, lo, floor, l)

  pub rise_open : {x : Source} → x ≡ rise_with new n s (Open first last) → s.span ≡ Open first last → x ≡ rise_with new n s s.span
  rise_open x e = x ∙ ap (λ (y : Span). rise_with new n s y) (sym e)

-- the express wait of each new number is that of a gap before a DATA
pub rise_data : (t : Moment) (us : List ℕ) (n : ℕ) (s : Source) {express : Express} {x : Source}
    → x ≡ rise_with (λ m. expressed express (asked t us s.distance m)) n s s.span
    → express ≡ cond (is_requester t.me s.pair) (Soon (t.clock + t.params.express)) Unset
    → x ≡ rise_by_data t us n s s.span
rise_data t us n s x express = rw (x, express)
