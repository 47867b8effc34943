-- What a SESS does to every record of an end that passed its questions, so any message, and so the statements of
-- specs/Arrivals.antt: whatever bytes arrive, refused or not.
use mathlib.Core.Path.{◌≡◌, refl, sym, ap, ◌∙◌, subst}
use mathlib.Core.Bool.{Bool, true, false, cond, not, ◌&&◌, ◌||◌}
use mathlib.Core.List.{List, [], ◌∷◌}
use mathlib.Core.Logic.{inl, inr}
use Prim.Native.Nat.{ℕ, ◌+◌, ◌≤◌, ◌<◌, max}
use native.Mathlib.Omega.{arith}
use lib.ListN.{length}
use lib.Dec.{eqb}
use borrow.Author.Tests.{ltb-true, lt-ltb, eq-eqb}
use Rattle.message.specs.declared.CueNumber.{CueNumber}
use Rattle.message.specs.declared.Host.{Host}
use Rattle.message.specs.declared.Report.{Report}
use Rattle.message.specs.Entry.{as_host, as_number}
use Rattle.message.specs.Message.{DATA, RQST, REPL, XPRS, FTCH, LATE, ANNC, Meaning, meaning_from}
use Rattle.message.specs.Question.{same_host}
use Rattle.message.proofs.QuestionLaws.{and_both}
use Rattle.end.specs.Parts.{Unset, Span, Closed, Open}
use Rattle.end.specs.declared.Record.{Record}
use Rattle.end.specs.declared.Attempt.{Attempt}
use Rattle.end.specs.declared.Source.{Source}
use Rattle.end.specs.declared.End.{End}
use Rattle.end.specs.declared.Moment.{Moment}
use Rattle.end.specs.declared.Says.TheVariants.{Data, Rqst, Repl, Xprs}
use Rattle.end.specs.State.{no_source, source_at, distance_to, is_member, moment_of, on_source, with_clock}
use Rattle.end.specs.Records.{within, is_above, record_at}
use Rattle.end.specs.Round.{request_at}
use Rattle.end.specs.Names.{asked, first_after, rise_with, rise}
use Rattle.end.specs.Answer.{Step, Refused, Result, buffer_of}
use Rattle.end.specs.Session.{reported_source, all_reported, heard_from, session_of}
use Rattle.end.specs.Arrival.{message_name, message_step, arrival_of}
use Rattle.end.specs.Event.{if_member, Arrival, act_of, step_of, question_of, event_of}
use Rattle.end.proofs.Facts.{narrow}
use Rattle.end.proofs.Readings.{reads, in_range_lem}
use Rattle.end.proofs.RecordLaws.{Narrow, inside, at_outside}
use Rattle.end.proofs.RiseLaws.{rise-distance, rise-heard, rise-length, rise_elim, rise_narrow}
use Rattle.end.proofs.Tools.{by_cond, by_test, clash, set_elim, or_left, or_right, clash'}
use Rattle.invariants.proofs.Ends.{clock-kept}
use Rattle.invariants.proofs.Facts.{SoundState, facts, span_in}
use Rattle.invariants.proofs.Questions.{Passed}
use Rattle.guarantees.specs.Calls.{moment_at}
use Rattle.guarantees.specs.Records.{record_of, StayOrRise, retires, retired}
use Rattle.guarantees.specs.Arrivals.{SameEnd, asks, express_by, risen, reported_up, has_name, is_fetched, is_announced, touches, SpanAs, is_data_of, is_session_of, hear, ProbeIsReport, ProbesAnswered, RefusedChangesNothing, ArrivalKeepsStatusAndNext, HeldStays, UntouchedStays, OtherSourcesStay, SlotsAsHeard, HeldIsCarried, RepliesAsHeard, ReplyQuietStays, SpansAsHeard, DistancesStay}
use Rattle.guarantees.proofs.Calls.{call-cases, member_not_crashed}
use Rattle.guarantees.proofs.Names.{held-inside, above-blank, source_of}
use Rattle.guarantees.proofs.Retired.{rise-moves, moves-on, last-rises, retires-is, none-retired, retired-below, outside_before, inside_unretired, risen-above, risen-below}
use Rattle.guarantees.proofs.Heard.{or_first, or_second, Heard, in_gap, heard-asked, not-kind, not-asked}
use Rattle.guarantees.proofs.Fetches.{marked, fetched-cases, late-cases, marked_at}
use Rattle.guarantees.proofs.Messages.{span-rise, span-may, HeardSource, HeardEnd, same_end, source-none, heard-ignored, no_express, word_heard}

-- ---- SESS

-- what is above the new last was above the old one
span-lower : (opens : Bool) → opens ≡ false → (x y : Span) → SpanAs opens x y → (j : ℕ) → is_above y j ≡ true → is_above x j ≡ true
span-lower opens shut Closed Closed h j k = k
span-lower opens shut Closed (Open first last) h j k = clash (sym h ∙ shut)
span-lower opens shut (Open f l) Closed h j k = absurd h
span-lower opens shut (Open f l) (Open first last) h j k = lt-ltb l.0 j (omega (arith, last-rises f l first last h, ltb-true last.0 j k))

-- what a rise to n, which is above last, retires of the numbers before lies more than 63 below n
twice_gone : (new : ℕ → Record) (n : ℕ) (s : Source) (opens : Bool) → opens ≡ false → (x y : Span) → Narrow y → SpanAs opens x y → is_above y n ≡ true → (j : ℕ)
    → retires x (rise_with new n s y).span j ≡ true → risen x n j ≡ true
unfolding rise_with
twice_gone new n s opens shut Closed y o h above j r = clash' r
twice_gone new n s opens shut (Open f l) Closed o h above j r = absurd h
twice_gone new n s opens shut (Open f l) (Open first last) o h above j r =
    let high = ltb-true last.0 n above in
    let first' = as_number (first_after first.0 (max last.0 n)) in
    let last' = as_number (max last.0 n) in
    let q = retires-is f l first' last' j r in
    let whole = moves-on f l first last first' last' h (rise-moves n first last o) in
    risen-below f l n j q.low q.high (far f l first' last' j n q.low q.passed q.rose (omega arith) whole)
  where
    far : (f l f' l' : CueNumber) (j n : ℕ) → f.0 ≤ j → j < f'.0 → l.0 < l'.0 → l'.0 ≡ n → StayOrRise f l f' l' → j + 63 < n
    far f l f' l' j n a b c e (inl p) = absurd (omega (arith, ap (λ (i : CueNumber). i.0) p.1))
    far f l f' l' j n a b c e (inr p) = omega (arith, p.1)

-- what lies inside after a rise lay not below first before it
rise-keeps : (new : ℕ → Record) (n : ℕ) (s : Source) (x y : Span) (j : ℕ) → within (rise_with new n s y).span j ≡ true → retires x y j ≡ false
unfolding rise_with
rise-keeps new n s x Closed j w = by_test (retires x Closed j) (λ t. clash' (sym (closed_none x) ∙ t)) (λ t. t)
  where
    closed_none : (x : Span) → retires x Closed j ≡ false
    closed_none Closed = refl
    closed_none (Open first last) = refl
rise-keeps new n s x (Open first last) j w =
    let i = inside (first_after first.0 (max last.0 n)) (max last.0 n) j w in
    by_test (retires x (Open first last) j)
    (λ t. let b = ltb-true j first.0 (retired-below x (Open first last) j t) in absurd (omega (arith, i.low)))
    (λ t. t)

reported-same : (t : Moment) (us : List ℕ) (rs : List Report) (e : End) → SameEnd e (all_reported t us rs e)
unfolding all_reported
reported-same t us [] e = same_end e
reported-same t us (r ∷ rs) e =
    let q = reported-same t us rs (on_source e r.source (reported_source t us r)) in
    record { host = q.host; params = q.params; status = q.status; next = q.next }

-- ---- what the reports make of source h, one after the other
module _ (us : List ℕ) (m : Meaning) (e : End) (f : SoundState e) (unnamed : has_name m ≡ false) (h : ℕ) (hh : h < 8) where
  abbrev was : Source
  was = source_of e h

  abbrev Becomes : ℕ → Record → Type 0
  Becomes j p = Heard (moment_of e) us m (distance_to e) was.distance (express_by (moment_of e) m h was.pair) h j (touches m h was.span j)
      (in_gap m was.span j) (record_at was j) p

  record Risen (p : Source) : Type 0 where
    long : length p.names ≡ 64
    thin : Narrow p.span
    distance : p.distance ≡ was.distance
    heard : p.heard ≡ was.heard
    span : SpanAs (is_data_of m h) was.span p.span
    gone : (j : ℕ) → retires was.span p.span j ≡ true → touches m h was.span j ≡ true
    each : (j : ℕ) → retires was.span p.span j ≡ false → Becomes j (record_at p j)

  thin_before : Narrow was.span
  thin_before = narrow was.span (span_in _ _ _ _ _ was (f.each h hh))

  none : Risen was
  none =
      let q = source-none (moment_of e) us m (distance_to e) h was in
      record { long = (f.each h hh).names; thin = thin_before; distance = refl; heard = refl; span = q.rest.0; gone = q.gone; each = q.each }

  undata : is_data_of m h ≡ false
  unfolding is_data_of
  undata = ap (λ (b : Bool). b && eqb (message_name m).source.0 h) (or_left (eqb m.kind DATA) _ unnamed)

  unasked : (j : ℕ) → asks m h j ≡ false
  unasked j =
      let rest = or_right (eqb m.kind DATA) _ unnamed in
      not-asked m h j (not-kind RQST m h j (or_left (eqb m.kind RQST) _ rest))
      (not-kind XPRS m h j (or_right (eqb m.kind REPL) _ (or_right (eqb m.kind RQST) _ rest)))

  unset : express_by (moment_of e) m h was.pair ≡ Unset
  unset = no_express m (moment_of e) h was.pair (or_left (eqb m.kind DATA) _ unnamed)

  -- the new numbers were above the last of before, so of them nothing was kept
  more : (n : ℕ) → ((j : ℕ) → risen was.span n j ≡ true → touches m h was.span j ≡ true) → (p : Source) → is_above p.span n ≡ true → Risen p
      → Risen (rise (moment_of e) us n p p.span)
  more n touched p above q =
      let t = moment_of e in
      let new = asked t us p.distance in
      let now = rise_with new n p p.span in
      let span = span-rise new n p (is_data_of m h) was.span p.span q.thin q.span in
      record {
        long = rise-length new n p p.span ∙ q.long;
        thin = rise_narrow new n p p.span refl q.thin;
        distance = rise-distance new n p p.span ∙ q.distance;
        heard = rise-heard new n p p.span ∙ q.heard;
        span = span;
        gone = λ j r. touched j (twice_gone new n p (is_data_of m h) undata was.span p.span q.thin q.span above j r);
        each = λ j kept. rise_elim (Becomes j) new n p p.span refl q.long j
            (λ a k.
            let a' = span-lower (is_data_of m h) undata was.span p.span q.span j a in
            heard-asked t us m (distance_to e) was.distance _ h j _ _ (touched j (risen-above was.span n j a' k))
            (record_at was j) (above-blank was j a') _ 0 refl _ (λ i. request_at t us (q.distance i) j (cond (sym (unasked j) i) 2 1))
            Unset (sym unset) (λ due set. absurd (let z : ◌≡◌ {A = ℕ} 0 1 = cc in omega arith)))
            (λ w. q.each j (rise-keeps new n p was.span p.span j w))
            (λ out.
            let before = outside_before was.span now.span j (span-may false (is_data_of m h) was.span now.span span) thin_before kept out in
            subst (Becomes j) (at_outside was j before) (none.each j (none-retired was.span j)));
      }

  all-risen : (rs : List Report) → ((j : ℕ) → reported_up rs h was.span j ≡ true → touches m h was.span j ≡ true)
      → (x : End) → Risen (source_of x h) → Risen (source_of (all_reported (moment_of e) us rs x) h)
  unfolding all_reported reported_up
  all-risen [] touched x q = q
  all-risen (r ∷ rs) touched x q =
      let t = moment_of e in
      let n = r.last.0 in
      let other = not (same_host r.source t.me) in
      all-risen rs (λ j k. touched j (or_second (eqb r.source.0 h && risen was.span n j) _ k)) (on_source x r.source (reported_source t us r))
      (set_elim Risen x.sources r.source.0 h (reported_source t us r (source_at x r.source)) no_source
      (λ i. subst (λ k. Risen (reported_source t us r (source_of x k))) i
      (by_cond Risen (other && is_above (source_of x h).span n)
      (λ c. more n (λ j k. touched j (or_first _ _ (λ l. eq-eqb r.source.0 h (sym i) l && k l))) (source_of x h) (and_both other _ c).1 q) (λ _. q)))
      q)

-- then the sender's distance and stamp are new; first, last and records are not
session-heard : (us : List ℕ) (m : Meaning) (e : End) → SoundState e → has_name m ≡ false → is_fetched m ≡ false → is_announced m ≡ false
    → HeardEnd (moment_of e) us m e (session_of (moment_of e) us m e).left
unfolding session_of is_session_of touches record_at
session-heard us m e f unnamed unfetched unannounced =
    let t = moment_of e in
    let now = all_reported t us m.reports e in
    let kept = reported-same t us m.reports e in
    record {
      same = record { host = kept.host; params = kept.params; status = kept.status; next = kept.next };
      sources = λ h hh.
          let q = all-risen us m e f unnamed h hh m.reports (λ j k. rw unnamed k) e (none us m e f unnamed h hh) in
          set_elim (HeardSource t us m (distance_to e) h (source_of e h)) now.sources m.sender.0 h (heard_from t m (source_at now m.sender)) no_source
          (λ i. subst (λ k. HeardSource t us m (distance_to e) h (source_of e h) (heard_from t m (source_of now k))) i
          (record {
            rest = (q.span, λ x. clash (sym (λ k. not (unnamed k || (unfetched k || unannounced k)) && eq-eqb m.sender.0 h (sym i) k) ∙ x));
            gone = q.gone;
            each = q.each;
          }))
          (record { rest = (q.span, λ _. (q.distance, q.heard)); gone = q.gone; each = q.each });
    }

-- ---- any message
module _ (us : List ℕ) (m : Meaning) (e : End) (f : SoundState e) (hs : (message_name m).source.0 < 8) where
  abbrev Hears : Step → Type 0
  Hears s = HeardEnd (moment_of e) us m e s.left

  ignored : HeardEnd (moment_of e) us m e e
  ignored = heard-ignored (moment_of e) us m e

  -- the marks of numbers below a first original are another matter
  marked_heard : (k : Host) (l : List Attempt) → HeardEnd (moment_of e) us m e (marked e k l)
  unfolding record_at
  marked_heard k l = record {
    same = record { host = refl; params = refl; status = refl; next = refl };
    sources = λ h hh.
        let q = ignored.sources h hh in
        marked_at (HeardSource (moment_of e) us m (distance_to e) h (source_of e h)) e k l h q (record { rest = q.rest; gone = q.gone; each = q.each });
  }

  message-heard : Hears (message_step us m e)
  unfolding message_step
  message-heard =
      by_cond Hears (eqb m.kind DATA) (λ k. word_heard us m e f Data k hs)
      (λ k. by_cond Hears (eqb m.kind RQST) (λ r. word_heard us m e f Rqst r hs)
      (λ r. by_cond Hears (eqb m.kind REPL) (λ q. word_heard us m e f Repl q hs)
      (λ q. by_cond Hears (eqb m.kind XPRS) (λ x. word_heard us m e f Xprs x hs)
      (λ x. by_cond Hears (eqb m.kind FTCH) (λ _. fetched-cases Hears m e ignored (λ bytes. ignored))
      (λ t. by_cond Hears (eqb m.kind LATE) (λ _. late-cases Hears m e ignored (λ l. marked_heard (message_name m).source l))
      (λ l. by_cond Hears (eqb m.kind ANNC) (λ _. ignored)
      (λ n. session-heard us m e f (λ i. k i || (r i || (q i || x i))) (λ i. t i || l i) n)))))))

  pub arrival-heard : Hears (if_member e (arrival_of us m e))
  unfolding arrival_of
  arrival-heard =
      by_cond Hears (is_member e.status) (λ _. by_cond Hears (same_host m.sender e.host) (λ _. ignored) (λ _. message-heard)) (λ _. ignored)

-- ---- any bytes

-- bytes that passed the reader's questions
pub passed-heard : (e : End) (bytes : List ℕ) (clock : ℕ) (draws : List ℕ) → Passed e (Arrival bytes) clock
    → HeardEnd (moment_at e clock) draws (meaning_from bytes) e (act_of draws (Arrival bytes) (with_clock e clock)).left
unfolding act_of
passed-heard e [] clock draws z =
    let q = heard-ignored (moment_at e clock) draws (meaning_from []) (with_clock e clock) in
    by_cond (λ (s : Step). HeardEnd (moment_at e clock) draws (meaning_from []) e s.left) (is_member e.status) (λ _. clocked q) (λ _. clocked q)
  where
    clocked : HeardEnd (moment_at e clock) draws (meaning_from []) (with_clock e clock) (with_clock e clock)
        → HeardEnd (moment_at e clock) draws (meaning_from []) e (with_clock e clock)
    clocked q =
        let s = q.same in
        record { same = record { host = s.host; params = s.params; status = s.status; next = s.next }; sources = q.sources }
passed-heard e (b ∷ s) clock draws z =
    let bytes : List ℕ = b ∷ s in
    let m = meaning_from bytes in
    let read = reads bytes z.own in
    let q = arrival-heard draws m (with_clock e clock) (clock-kept e clock (facts e z.sound) z.later z.ticks) (in_range_lem bytes m read).source in
    record { same = record { host = q.same.host; params = q.same.params; status = q.same.status; next = q.same.next }; sources = q.sources }

pub hear-heard : (e : End) (bytes : List ℕ) (clock room : ℕ) (draws : List ℕ)
    → HeardEnd (moment_at e clock) draws (meaning_from bytes) e (hear e bytes clock room draws).left
hear-heard e bytes clock room draws =
    let t = moment_at e clock in
    let m = meaning_from bytes in
    call-cases (λ (r : Result). HeardEnd t draws m e r.left) e (Arrival bytes) clock room draws
    (λ k. heard-ignored t draws m e) (λ z c. heard-ignored t draws m e) (λ z c. passed-heard e bytes clock draws z)

pub probe_is_report : ProbeIsReport
unfolding event_of question_of step_of act_of
probe_is_report e clock room draws = refl

pub probes_answered : ProbesAnswered
unfolding event_of step_of act_of
probes_answered e clock room draws asked =
    let yes = eq-eqb (question_of e (Arrival []) clock room (length draws)) 0 asked in
    record {
      member = λ m. rw (yes, member_not_crashed e.status m, m);
      aside = λ m c. rw (yes, c, m);
      crashed = λ c. rw (yes, c);
    }

pub refused_changes_nothing : RefusedChangesNothing
unfolding buffer_of
refused_changes_nothing e a clock room draws k =
    call-cases (λ (r : Result). r.outcome ≡ Refused k → (r.left ≡ e) × ((out : List ℕ) → buffer_of r.outcome out ≡ out)) e a clock room draws
    (λ i h. (refl, λ out. refl)) (λ z c h. (refl, λ out. refl)) (λ z c h. absurd (let w : ◌≡◌ {A = ℕ} 0 1 = cc in omega arith))

pub arrival_keeps_status_and_next : ArrivalKeepsStatusAndNext
arrival_keeps_status_and_next e bytes clock room draws = (hear-heard e bytes clock room draws).same

-- a record that is not retired, and one of which the message may change nothing
pub heard-at : (e : End) (bytes : List ℕ) (clock room : ℕ) (draws : List ℕ) (h n : ℕ) (hh : h < 8) → retired e (hear e bytes clock room draws).left h n ≡ false
    → Heard (moment_at e clock) draws (meaning_from bytes) (distance_to e) (distance_to e (as_host h))
    (express_by (moment_at e clock) (meaning_from bytes) h (source_at e (as_host h)).pair) h n
    (touches (meaning_from bytes) h (source_at e (as_host h)).span n) (in_gap (meaning_from bytes) (source_at e (as_host h)).span n)
    (record_of e h n) (record_of (hear e bytes clock room draws).left h n)
heard-at e bytes clock room draws h n hh kept = ((hear-heard e bytes clock room draws).sources h hh).each n kept

pub held_stays : HeldStays
held_stays e bytes clock room draws h n hh p kept = (heard-at e bytes clock room draws h n hh kept).held p

pub untouched_stays : UntouchedStays
untouched_stays e bytes clock room draws h n hh t = by_test (retired e (hear e bytes clock room draws).left h n)
    (λ gone. clash (sym (((hear-heard e bytes clock room draws).sources h hh).gone n gone) ∙ t))
    (λ kept. (heard-at e bytes clock room draws h n hh kept).same t)

pub other_sources_stay : OtherSourcesStay
unfolding touches
other_sources_stay e bytes clock room draws h n hh named apart = untouched_stays e bytes clock room draws h n hh (rw (named, apart))

pub slots_as_heard : SlotsAsHeard
slots_as_heard e bytes clock room draws h n hh kept = (heard-at e bytes clock room draws h n hh kept).slots

-- what is held is not retired
pub held_is_carried : HeldIsCarried
held_is_carried e bytes clock room draws h n hh t p =
    let left = (hear e bytes clock room draws).left in
    let kept = inside_unretired (source_at e (as_host h)).span (source_at left (as_host h)).span n (held-inside (source_at left (as_host h)) n p) in
    (heard-at e bytes clock room draws h n hh kept).carries t p

pub replies_as_heard : RepliesAsHeard
replies_as_heard e bytes clock room draws h n hh kept = (heard-at e bytes clock room draws h n hh kept).reply

pub reply_quiet_stays : ReplyQuietStays
reply_quiet_stays e bytes clock room draws h n hh kept = (heard-at e bytes clock room draws h n hh kept).quiet

pub spans_as_heard : SpansAsHeard
spans_as_heard e bytes clock room draws h hh = ((hear-heard e bytes clock room draws).sources h hh).rest.0

-- a probe changes nothing but the clock
probe-apart : (e : End) (clock room : ℕ) (draws : List ℕ) (h : ℕ) → source_at (hear e [] clock room draws).left (as_host h) ≡ source_at e (as_host h)
unfolding act_of
probe-apart e clock room draws h =
    let Apart : Result → Type 0 = λ r. source_at r.left (as_host h) ≡ source_at e (as_host h) in
    call-cases Apart e (Arrival []) clock room draws (λ k. refl) (λ z c. refl)
    (λ z c. by_cond (λ (s : Step). source_at s.left (as_host h) ≡ source_at e (as_host h)) (is_member e.status) (λ _. refl) (λ _. refl))

pub distances_stay : DistancesStay
distances_stay e [] clock room draws h hh t =
    let same = probe-apart e clock room draws h in
    (ap (λ (s : Source). s.distance) same, ap (λ (s : Source). s.heard) same)
distances_stay e (b ∷ s) clock room draws h hh t = ((hear-heard e (b ∷ s) clock room draws).sources h hh).rest.1 t
