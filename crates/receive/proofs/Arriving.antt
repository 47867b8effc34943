-- What holds where an arrival's reports have stepped their sources, and what its last step then gives.
use mathlib.Core.Path.{◌≡◌, sym, ap, ◌∙◌}
use Prim.Native.Nat.{ℕ, ◌≤◌, ◌<◌}
use mathlib.Core.Bool.{true, cond, ◌||◌}
use mathlib.Core.List.{List}
use lib.ListN.{take}
use Rattle.message.specs.declared.Host.{Host}
use Rattle.message.specs.declared.Message.{Message}
use Rattle.message.specs.Section.{all}
use Rattle.message.specs.Message.{meaning_of}
use Rattle.message.specs.Question.{report_in, same_host}
use Rattle.message.proofs.QuestionLaws.{counts-small}
use Rattle.end.specs.declared.Moment.{Moment}
use Rattle.end.specs.declared.Answer.{Answer}
use Rattle.end.specs.declared.Source.{Source}
use Rattle.end.specs.declared.End.{End}
use Rattle.end.specs.State.{source_at, distance_to, moment_of, with_source, on_source}
use Rattle.end.specs.Answer.{Did, Step, give, answer_of, done, called_of, buffer_of}
use Rattle.end.specs.Session.{all_reported}
use Rattle.end.specs.Arrival.{arrival_of}
use Rattle.end.proofs.Ready.{ranges}
use Rattle.says.specs.Said.{is_about, asker_in, subject_of}
use Rattle.session.proofs.Passes.{in_range_lem}
use Rattle.receive.specs.Hearing.{AllCounted, Hearing, HearingOn}
use Rattle.receive.specs.Steps.{reports_for, effect_on, left_on}
use Rattle.receive.proofs.Lists.{none-taken, none-most, none-all}
use Rattle.receive.proofs.Passes.{asker_in_lem}
use Rattle.receive.proofs.Reports.{reports_ranges}
use Rattle.receive.proofs.Whole.{whole}

pub record Known (e : End) (m : Message) (draws room : ℕ) (t : Moment) (d count : ℕ) : Type 0 where
  pub hearing : Hearing e m draws room
  pub moment : t ≡ moment_of e
  pub away : d ≡ distance_to e (asker_in (meaning_of m))
  pub most : count ≤ 8
  pub reports_in_lem : all (report_in 65535) (take count m.reports) ≡ true
  pub heard : take count m.reports ≡ reports_for e.host (meaning_of m)

-- it follows from what the functions before the loop promise
pub known : (e : End) (m : Message) (draws room : ℕ) (t : Moment) (asker : Host) (d count : ℕ) → Hearing e m draws room → t ≡ moment_of e
    → asker ≡ asker_in (meaning_of m) → d ≡ distance_to e asker → count ≡ cond (same_host m.sender t.me || is_about m.kind) 0 m.counts.reports
    → Known e m draws room t d count
known e m draws room t asker d count h p q r k =
    let none = same_host m.sender e.host || is_about m.kind in
    let same : count ≡ cond none 0 m.counts.reports =
    k ∙ ap (λ (x : Moment). cond (same_host m.sender x.me || is_about m.kind) 0 m.counts.reports) p in
    record {
      hearing = h;
      moment = p;
      away = r ∙ ap (distance_to e) q;
      most = rw same (none-most none m.counts.reports 8 (counts-small m.kind m.counts h.passed.counts_in).reports);
      reports_in_lem = rw same (none-all (report_in 65535) none m.counts.reports m.reports (in_range_lem (meaning_of m) h.passed.ranges_in).reports);
      heard = rw same (none-taken none m.counts.reports m.reports);
    }

module _ {e : End} {m : Message} {draws room : ℕ} {t : Moment} {d count : ℕ} (k : Known e m draws room t d count) where
  -- the end that the reports left, and a source of it
  module _ (us : List ℕ) (x : End) (p : x ≡ all_reported t us (take count m.reports) e) (h : Host) where
    pub hearing-on : AllCounted x → h.0 < 8 → HearingOn t (source_at x h) d m draws room
    hearing-on c small = record {
      source = reports_ranges t us (take count m.reports) e x k.hearing.ready k.moment p h small;
      counted = c h small;
      requester = rw (k.away, k.moment) (ranges e k.hearing.ready (asker_in (meaning_of m)) (asker_in_lem (meaning_of m) k.hearing.passed.ranges_in));
      passed = k.hearing.passed;
    }

    -- the step on the source that the message is about is then the arrival's
    pub gives : (r : Answer) (s : Source) (out after : List ℕ) → h ≡ subject_of (meaning_of m)
        → r ≡ answer_of (Did (effect_on t d (meaning_of m) (source_at x h))) → s ≡ left_on t us d (meaning_of m) (source_at x h)
        → after ≡ buffer_of (Did (effect_on t d (meaning_of m) (source_at x h))) out
        → (called_of (done (arrival_of us (meaning_of m) e)) ≡ record { answer = r; end = with_source x h s })
        × (after ≡ buffer_of (Did (arrival_of us (meaning_of m) e).effect) out)
    gives r s out after q v l b =
        let M = meaning_of m in
        let left : x ≡ all_reported (moment_of e) us (reports_for e.host M) e = p ∙ λ j. all_reported (k.moment j) us (k.heard j) e in
        let same : give (effect_on t d M (source_at x h)) (on_source x h (left_on t us d M)) ≡ arrival_of us M e =
        (λ j. give (effect_on (k.moment j) (k.away j) M (source_at (left j) (q j))) (on_source (left j) (q j) (left_on (k.moment j) us (k.away j) M)))
        ∙ sym (whole us M e) in (
          sym ((λ j. record { answer = v j; end = with_source x h (l j) }) ∙ ap (λ (y : Step). called_of (done y)) same),
          b ∙ ap (λ (y : Step). buffer_of (Did y.effect) out) same,
        )
