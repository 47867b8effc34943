-- A sound state whose fields have what their types say fits its 31,136 bytes: so its form holds it.
use mathlib.Core.Path.{◌≡◌, refl, ap, ◌∙◌, subst}
use mathlib.Core.Bool.{Bool, true, false, not}
use mathlib.Core.List.{List, [], ◌∷◌}
use Prim.Native.Nat.{ℕ, suc, ◌+◌, ◌-◌, ◌%◌, ◌≤◌, ◌<◌}
use native.Mathlib.Omega.{arith}
use lib.ListN.{length, get_or}
use lib.Dec.{leb}
use borrow.Author.Tests.{eqb-true, leb-true, ltb-true}
use Rattle.message.specs.declared.Host.{Host}
use Rattle.message.specs.Entry.{as_host}
use Rattle.message.specs.Question.{same_host}
use Rattle.message.proofs.QuestionLaws.{and_both}
use Rattle.message.proofs.SectionLaws.{All, none, some}
use Rattle.end.specs.declared.Params.{Params}
use Rattle.end.specs.declared.Request.{Request}
use Rattle.end.specs.declared.Status.{Status}
use Rattle.end.specs.declared.Status.TheVariants.{Idle, Joining, Member, Leaving, Crashed}
use Rattle.end.specs.declared.Slot.{Slot}
use Rattle.end.specs.declared.Slot.TheVariants.{Empty, Held, Waiting}
use Rattle.end.specs.Parts.{Unset, Soon, No, Due, Pair, NoPair, Kept, Heard, Never, At, Origin, NoOrigin, From, Span, Closed, Open}
use Rattle.end.specs.declared.Record.{Record}
use Rattle.end.specs.declared.Source.{Source}
use Rattle.end.specs.declared.End.{End}
use Rattle.end.specs.State.{no_record, no_source, no_attempt, is_member}
use Rattle.end.specs.Records.{within, start, place, raw_at}
use Rattle.end.specs.Ready.{SpanIn}
use Rattle.end.specs.Sound.{all_of, time_limit, time_in, request_tests, inside_sound, outside_sound, span_tests, pair_tests, distance_sound, heard_tests}
use Rattle.end.specs.Sound.{origin_sound, params_tests, delay_in, sound_of}
use Rattle.end.proofs.SoundLaws.{nth}
use Rattle.end.proofs.RecordLaws.{at-inside}
use Rattle.end.proofs.Tools.{by_test, clash'}
use Rattle.invariants.proofs.Facts.{SoundSource, SoundState, facts, span_in}
use Rattle.invariants.proofs.Records.{waiting_in, held_in, reply_from, hush_in, outside_hush}
use Rattle.lent_records.specs.Bytes.{five_of, FiveFit, RecordFits}
use Rattle.lent_source.specs.Source.{SpanFits, PairFits, HeardFits, OriginFits, bit, AttemptFits, SourceFits}
use Rattle.lent_end.specs.State.{ParamsFit, status_number, end_bytes, EndFits, Holds}
use Rattle.lent_end.proofs.StateLaws.{form_holds}
use Rattle.lent_runs.proofs.Typed.{reported_of, Typed, TypedEnd}

-- what holds of each element of a list
all_there : {A : Type 0} {P : A → Type 0} (d : A) (l : List A) → ((i : ℕ) → i < length l → P (get_or l i d)) → All P l
all_there d [] h = none
all_there d (a ∷ l) h = some (h 0 (omega arith)) (all_there d l (λ i k. h (suc i) (omega arith)))

-- each place is that of one of the 64 numbers from any on
at-place : (lo i : ℕ) → i < 64 → (n : ℕ) × (lo ≤ n) × (n < lo + 64) × (place n ≡ i)
at-place lo i l = (lo + (i + 64 - lo % 64) % 64, omega arith, omega arith, omega arith)

-- ---- one record
abbrev Time : ℕ → Type 0
Time t = t < time_limit

five-small : (tag small a b c : ℕ) → tag < 256 → small < 256 → Time a → Time b → Time c → FiveFit (record { tag = tag; small = small; a = a; b = b; c = c })
five-small tag small a b c ht hs ha hb hc =
    record { tag_fits = ht; small-fits = hs; a_fits = omega arith; b_fits = omega arith; c_fits = omega arith }

module _ (me source : Host) (pair : Pair) (r : Record) where
  request-fits : (tag : ℕ) (q : Request) (c : ℕ) → tag < 256 → Time c → all_of (request_tests q) ≡ true
      → FiveFit (record { tag = tag; small = q.round; a = q.due; b = q.quiet; c = c })
  request-fits tag q c ht hc h =
      let tests = request_tests q in
      five-small tag q.round q.due q.quiet c ht (omega (arith, leb-true q.round 16 (nth tests 1 h)))
      (ltb-true q.due time_limit (nth tests 2 h)) (ltb-true q.quiet time_limit (nth tests 3 h)) hc

  inside-fits : (x : Slot) → inside_sound me source pair r x ≡ true → FiveFit (five_of x)
  inside-fits Empty h = clash' h
  inside-fits (Held No) h = five-small 1 0 0 0 0 (omega arith) (omega arith) (omega arith) (omega arith) (omega arith)
  inside-fits (Held (Due due k)) h =
      let v = reply_from me source due k (held_in me source pair r (Due due k) h).reply in
      five-small 2 k.0 due 0 0 (omega arith) (omega (arith, v.host)) v.due (omega arith) (omega arith)
  inside-fits (Waiting q Unset) h = request-fits 3 q 0 (omega arith) (omega arith) (waiting_in me source pair r q Unset h).request
  inside-fits (Waiting q (Soon due)) h =
      let v = waiting_in me source pair r q (Soon due) h in
      request-fits 4 q due (omega arith) (ltb-true due time_limit (and_both (time_in due) _ v.express).0) v.request

  outside_fits : (x : Slot) → outside_sound r x ≡ true → FiveFit (five_of x)
  outside_fits Empty h = five-small 0 0 0 0 0 (omega arith) (omega arith) (omega arith) (omega arith) (omega arith)
  outside_fits (Held reply) h = clash' h
  outside_fits (Waiting q x) h = clash' h

record_fits : (r : Record) → FiveFit (five_of r.slot) → length r.cue ≡ 24 → time_in r.hush ≡ true → RecordFits r
record_fits r f long hush =
    let time : r.hush < time_limit = ltb-true r.hush time_limit hush in
    record { five_fit = f; cue-long = long; hush_fits = omega arith }

-- ---- one source
span_fits : (x : Span) → SpanIn x → SpanFits x
span_fits Closed l = ((omega arith, omega arith), omega arith)
span_fits (Open first last) l = ((omega arith, omega (arith, l.0, l.1)), omega (arith, l.1))

missed-below : (own : Bool) (next missed : ℕ) (x : Span) → all_of (span_tests own next missed x) ≡ true → SpanIn x → missed < 65536
missed-below own next missed Closed h l = omega (arith, eqb-true missed 0 h)
missed-below own next missed (Open first last) h l =
    omega (arith, leb-true missed first.0 (nth (span_tests own next missed (Open first last)) 4 h), l.0, l.1)

pair_fits : (me : Host) (x : Pair) → all_of (pair_tests me x) ≡ true → PairFits x
pair_fits me NoPair h = (((omega arith, omega arith), omega arith), omega arith)
pair_fits me (Kept requester sender n) h =
    let tests = pair_tests me (Kept requester sender n) in
    let a = ltb-true requester.0 8 (nth tests 0 h) in
    let b = ltb-true sender.0 8 (nth tests 1 h) in
    (((omega arith, omega (arith, a)), omega (arith, b)), ltb-true n.0 65536 (nth tests 3 h))

distance-below : (own : Bool) (d : ℕ) → distance_sound own d ≡ true → d ≤ 1000
distance-below true d h = omega (arith, eqb-true d 0 h)
distance-below false d h = leb-true d 1000 (and_both (leb 1 d) (leb d 1000) h).1

heard-fits : (own : Bool) (clock : ℕ) (x : Heard) → clock < 281474976710656 → reported_of x < 256 → all_of (heard_tests own clock x) ≡ true → HeardFits x
heard-fits own clock Never l r h = (((omega arith, omega arith), omega arith), omega arith)
heard-fits own clock (At stamp when reported) l r h =
    let tests = heard_tests own clock (At stamp when reported) in
    let a = ltb-true stamp 281474976710656 (nth tests 1 h) in
    let b = leb-true when clock (nth tests 2 h) in
    (((omega arith, omega (arith, a)), omega (arith, b)), r)

origin-fits : (own : Bool) (x : Span) (o : Origin) → SpanIn x → origin_sound own x o ≡ true → OriginFits o
origin-fits own x NoOrigin l h = (omega arith, omega arith)
origin-fits own Closed (From n) l h = clash' h
origin-fits own (Open first last) (From n) l h =
    (omega arith, omega (arith, leb-true n.0 first.0 (and_both (not own) (leb n.0 first.0) h).1, l.0, l.1))

bit_below : (t : Bool) → bit t < 256
bit_below true = omega arith
bit_below false = omega arith

module _ (me : Host) (next clock : ℕ) (member : Bool) (h : Host) (s : Source) (q : SoundSource me next clock member h s) (t : Typed s)
    (ticks : clock < 281474976710656) where
  spans : SpanIn s.span
  spans = span_in me next clock member h s q

  -- a number in the place is inside first..last or not
  placed : (n : ℕ) → start s.span ≤ n → n < start s.span + 64 → length (raw_at s.names n).cue ≡ 24 → RecordFits (raw_at s.names n)
  placed n a b long = by_test (within s.span n)
      (λ w.
      let r = raw_at s.names n in
      let sound : inside_sound me h s.pair r r.slot ≡ true =
      subst (λ (y : Record). inside_sound me h s.pair y y.slot ≡ true) (at-inside s n w) (q.inside n w) in
      record_fits r (inside-fits me h s.pair r r.slot sound) long (hush_in me h s.pair r r.slot sound))
      (λ w.
      let r = raw_at s.names n in
      let sound = q.outside n a b w in
      record_fits r (outside_fits me h s.pair r r.slot sound) long (outside_hush me h r r.slot sound))

  records_fit : All RecordFits s.names
  records_fit = all_there no_record s.names (λ i l.
      let small : i < 64 = omega (arith, q.names) in
      let at = at-place (start s.span) i small in
      subst (λ (k : ℕ). RecordFits (get_or s.names k no_record)) at.3
      (placed at.0 at.1 at.2 (ap (λ (k : ℕ). length (get_or s.names k no_record).cue) at.3 ∙ t.cues i small)))

  attempts_fit : All AttemptFits s.attempts
  attempts_fit = all_there no_attempt s.attempts (λ i l. (t.tried i (omega (arith, q.attempts)), bit_below (get_or s.attempts i no_attempt).late))

  source_fits : SourceFits s
  source_fits =
      let far = distance-below (same_host h me) s.distance q.distance in
      let missed = missed-below (same_host h me) next s.missed s.span q.span spans in
      record {
        front_fits = record {
          span_fits = span_fits s.span spans;
          missed-fits = omega arith;
          pair_fits = pair_fits me s.pair q.pair;
          distance-fits = omega arith;
        };
        heard-fits = heard-fits (same_host h me) clock s.heard ticks t.reported q.heard;
        origin-fits = origin-fits (same_host h me) s.span s.origin spans q.origin;
        attempts_fit = (q.attempts, attempts_fit);
        records_fit = (q.names, records_fit);
      }

-- ---- the end
params_fit : (p : Params) → all_of (params_tests p) ≡ true → delay_in p ≡ true → ParamsFit p
params_fit p h d =
    let tests = params_tests p in
    record {
      c1-fits = omega (arith, leb-true p.c1 32 (nth tests 0 h));
      c2-fits = omega (arith, leb-true p.c2 32 (nth tests 1 h));
      c3-fits = omega (arith, leb-true p.c3 32 (nth tests 2 h));
      d1-fits = omega (arith, leb-true p.d1 32 (nth tests 3 h));
      d2-fits = omega (arith, leb-true p.d2 32 (nth tests 4 h));
      d3-fits = omega (arith, leb-true p.d3 32 (nth tests 5 h));
      express-fits = omega (arith, leb-true p.express 1000 d);
    }

status-below : (x : Status) → status_number x < 256
status-below Idle = omega arith
status-below Joining = omega arith
status-below Member = omega arith
status-below Leaving = omega arith
status-below Crashed = omega arith

end_fits : (e : End) → SoundState e → TypedEnd e → EndFits e
end_fits e f t = record {
  head-fits = record {
    host-fits = omega (arith, f.host);
    params_fit = params_fit e.params f.params f.delay;
    clock-fits = omega (arith, f.clock);
    status-fits = status-below e.status;
    next_fits = omega (arith, f.next);
  };
  sources_fit = (
    f.sources,
    all_there no_source e.sources (λ h l.
        let small : h < 8 = omega (arith, f.sources) in
        source_fits e.host e.next e.clock (is_member e.status) (as_host h) (get_or e.sources h no_source) (f.each h small) (t h small) f.clock),
  );
}

pub sound-holds : (e : End) → sound_of e ≡ true → TypedEnd e → Holds (end_bytes e) e
sound-holds e sound t = form_holds e (end_bytes e) (end_fits e (facts e sound) t) refl
