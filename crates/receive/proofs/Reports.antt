-- The reports of a session message: what a turn of the loop over them adds, and that they leave every distance as it was and every source
-- counted.
use mathlib.Core.Path.{◌≡◌, refl, sym, ap, ◌∙◌}
use Prim.Native.Nat.{ℕ, ◌+◌, ◌<◌}
use mathlib.Core.Bool.{not, ◌&&◌}
use mathlib.Core.List.{List, [], ◌∷◌}
use lib.ListN.{length, take, get_or}
use Rattle.message.specs.declared.Host.{Host}
use Rattle.message.specs.declared.Report.{Report}
use Rattle.message.specs.Limit.{number_limit}
use Rattle.message.specs.Entry.{blank_report}
use Rattle.message.specs.Question.{same_host}
use Rattle.end.specs.declared.Moment.{Moment}
use Rattle.end.specs.declared.Source.{Source}
use Rattle.end.specs.declared.End.{End}
use Rattle.end.specs.State.{no_source, source_at, distance_to, moment_of, with_source, on_source}
use Rattle.end.specs.Records.{is_above}
use Rattle.end.specs.Names.{asked}
use Rattle.end.specs.Ready.{Ranges, Ready}
use Rattle.end.specs.Session.{reported_source, all_reported}
use Rattle.end.proofs.Tools.{by_cond, set_elim}
use Rattle.end.proofs.RiseLaws.{rise-distance}
use Rattle.end.proofs.Ready.{ranges}
use Rattle.state.specs.Counted.{Counted}
use Rattle.state.proofs.Counted.{counted-rise}
use Rattle.session.proofs.Lists.{through-turn}
use Rattle.receive.specs.Hearing.{AllCounted}

module _ (t : Moment) (us : List ℕ) where
  -- a turn steps the source of its report
  pub reports-turn : (l : List Report) (i : ℕ) (r : Report) (start before : End) (s : Source) → i < length l → r ≡ get_or l i blank_report
      → before ≡ all_reported t us (take i l) start → s ≡ reported_source t us r (source_at before r.source)
      → with_source before r.source s ≡ all_reported t us (take (i + 1) l) start
  unfolding all_reported
  reports-turn l i r start before s h e p q =
      let step : Report → End → End = λ r e. on_source e r.source (reported_source t us r) in
      through-turn (all_reported t us) step (λ e. refl) (λ r l e. refl) l i blank_report start before (with_source before r.source s) h p
      (ap (with_source before r.source) q ∙ ap (λ (x : Report). step x before) e)

  report-distance : (r : Report) (e : End) (h : Host) → distance_to (on_source e r.source (reported_source t us r)) h ≡ distance_to e h
  report-distance r e h =
      let s = source_at e r.source in
      let kept : (reported_source t us r s).distance ≡ s.distance =
      by_cond (λ (x : Source). x.distance ≡ s.distance) (not (same_host r.source t.me) && is_above s.span r.last.0)
      (λ b. rise-distance (asked t us s.distance) r.last.0 s s.span) (λ b. refl) in
      set_elim (λ (x : Source). x.distance ≡ distance_to e h) e.sources r.source.0 h.0 (reported_source t us r s) no_source
      (λ same. kept ∙ sym (ap (λ (k : ℕ). (get_or e.sources k no_source).distance) same)) refl

  -- the reports leave every distance as it was
  reports-distance : (l : List Report) (e : End) (h : Host) → distance_to (all_reported t us l e) h ≡ distance_to e h
  unfolding all_reported
  reports-distance [] e h = refl
  reports-distance (r ∷ l) e h = reports-distance l (on_source e r.source (reported_source t us r)) h ∙ report-distance r e h

-- and so the ranges of every wait, in an end that the reports left
pub reports_ranges : (t : Moment) (us : List ℕ) (l : List Report) (e x : End) → Ready e → t ≡ moment_of e → x ≡ all_reported t us l e
    → (h : Host) → h.0 < 8 → Ranges t (distance_to x h)
reports_ranges t us l e x r p q h k = rw (q, reports-distance t us l e h, p) (ranges e r h k)

-- a turn leaves every source counted
pub report-counts : (t : Moment) (us : List ℕ) (r : Report) (e : End) (s : Source) → (r.source.0 < 8) × (r.last.0 < number_limit) → AllCounted e
    → s ≡ reported_source t us r (source_at e r.source) → AllCounted (with_source e r.source s)
report-counts t us r e s l c p h k =
    let was = source_at e r.source in
    let kept = c r.source l.0 in
    let now : Counted (reported_source t us r was) =
    by_cond Counted (not (same_host r.source t.me) && is_above was.span r.last.0)
    (λ b. counted-rise (asked t us was.distance) r.last.0 was l.1 kept) (λ b. kept) in
    set_elim Counted e.sources r.source.0 h.0 s no_source (λ same. rw p now) (c h k)
