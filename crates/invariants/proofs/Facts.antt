-- A sound state as a record of facts: from the test to the facts, and back.
use mathlib.Core.Path.{◌≡◌, refl, subst}
use Prim.Native.Nat.{ℕ, zero, suc, ◌+◌, ◌-◌, ◌≤◌, ◌<◌}
use native.Mathlib.Omega.{arith}
use mathlib.Core.Bool.{Bool, true, false, ◌&&◌, ◌||◌}
use mathlib.Core.List.{[], ◌∷◌}
use lib.ListN.{length, get_or}
use borrow.Author.Tests.{eqb-true, eq-eqb, lt-ltb, le-leb}
use Rattle.message.specs.declared.Host.{Host}
use Rattle.message.specs.Entry.{as_host}
use Rattle.message.specs.Question.{same_host}
use Rattle.end.specs.declared.Source.{Source}
use Rattle.end.specs.declared.End.{End}
use Rattle.end.specs.State.{no_source, is_member, distance_to, moment_of}
use Rattle.end.specs.Records.{within, start, raw_at, record_at}
use Rattle.end.specs.Sound.{all_of, all_below, inside_sound, outside_sound, record_sound, span_tests, pair_tests, distance_sound, heard_tests, non_member_tests}
use Rattle.end.specs.Sound.{origin_sound, attempts_sound}
use Rattle.end.specs.Sound.{source_tests, source_sound, params_tests, delay_in, sound_tests, sound_of}
use Rattle.end.specs.Ready.{SpanIn, Ranges}
use Rattle.end.proofs.Tools.{by_test, or_alone}
use Rattle.end.proofs.RecordLaws.{at-inside}
use Rattle.end.proofs.SoundLaws.{nth, all-at, sound-end}
use Rattle.end.proofs.Facts.{last_in_lem, among_64}
use Rattle.end.proofs.Ready.{ready, ranges}

-- a test that holds of each number below n
pub all_intro : (f : ℕ → Bool) (n : ℕ) → ((i : ℕ) → i < n → f i ≡ true) → all_below f n ≡ true
unfolding all_below
all_intro f zero h = refl
all_intro f (suc n) h = λ i. all_intro f n (λ k l. h k (omega arith)) i && h n (omega arith) i

or_else : (a b : Bool) → (a ≡ false → b ≡ true) → (a || b) ≡ true
or_else true b h = refl
or_else false b h = h refl

-- ---- one source, of host h, of an end with this host, next number and clock. The records inside first..last are known by their
-- numbers; outside, the place of a number of the 64 from first on holds nothing
pub record SoundSource (me : Host) (next clock : ℕ) (member : Bool) (h : Host) (s : Source) : Type 0 where
  pub names : length s.names ≡ 64
  pub span : all_of (span_tests (same_host h me) next s.missed s.span) ≡ true
  pub distance : distance_sound (same_host h me) s.distance ≡ true
  pub heard : all_of (heard_tests (same_host h me) clock s.heard) ≡ true
  pub aside : member ≡ false → all_of (non_member_tests (same_host h me) s) ≡ true
  pub pair : all_of (pair_tests me s.pair) ≡ true
  pub inside : (n : ℕ) → within s.span n ≡ true → inside_sound me h s.pair (record_at s n) (record_at s n).slot ≡ true
  pub outside : (n : ℕ) → start s.span ≤ n → n < start s.span + 64 → within s.span n ≡ false
      → outside_sound (raw_at s.names n) (raw_at s.names n).slot ≡ true
  pub attempts : length s.attempts ≡ 64
  pub origin : origin_sound (same_host h me) s.span s.origin ≡ true
  pub marks : attempts_sound me s.origin s.attempts 64 ≡ true

module _ (me : Host) (next clock : ℕ) (member : Bool) (h : Host) (s : Source) where
  pub source-facts : source_sound me next clock member h s ≡ true → SoundSource me next clock member h s
  source-facts t =
      let tests = source_tests me next clock member h s in
      let low = start s.span in
      let records : (n : ℕ) → low ≤ n → n < low + 64 → record_sound me h s.pair s.span n (raw_at s.names n) ≡ true =
      λ n a b.
      let i : low + (n - low) ≡ n = omega arith in
      subst (λ (m : ℕ). record_sound me h s.pair s.span m (raw_at s.names m) ≡ true) i
      (all-at (λ i. record_sound me h s.pair s.span (low + i) (raw_at s.names (low + i))) 64 (n - low) (nth tests 5 t) (omega arith)) in
      let ends = last_in_lem (same_host h me) next s.missed s.span (nth tests 1 t) in
      record {
        names = eqb-true (length s.names) 64 (nth tests 0 t);
        span = nth tests 1 t;
        distance = nth tests 2 t;
        heard = nth tests 3 t;
        aside = or_alone member (all_of (non_member_tests (same_host h me) s)) (nth tests 4 t);
        pair = nth tests 6 t;
        inside = λ n w. let i = among_64 s.span n ends w in rw (at-inside s n w) (rw w at (records n i.0 i.1));
        outside = λ n a b w. rw w at (records n a b);
        attempts = eqb-true (length s.attempts) 64 (nth tests 7 t);
        origin = nth tests 8 t;
        marks = nth tests 9 t;
      }

  -- first..last of a sound source
  pub span_in : SoundSource me next clock member h s → SpanIn s.span
  span_in q = last_in_lem (same_host h me) next s.missed s.span q.span

  pub source_sound_lem : SoundSource me next clock member h s → source_sound me next clock member h s ≡ true
  source_sound_lem q =
      let names = eq-eqb (length s.names) 64 q.names in
      let attempts = eq-eqb (length s.attempts) 64 q.attempts in
      let aside = or_else member (all_of (non_member_tests (same_host h me) s)) q.aside in
      let low = start s.span in
      let records = all_intro (λ i. record_sound me h s.pair s.span (low + i) (raw_at s.names (low + i))) 64
      (λ i l. let n = low + i in
      by_test (within s.span n) (λ w. rw w (rw (at-inside s n w) at (q.inside n w))) (λ w. rw w (q.outside n (omega arith) (omega arith) w))) in
      λ i.
      all_of (names i ∷ q.span i ∷ q.distance i ∷ q.heard i ∷ aside i ∷ records i ∷ q.pair i ∷ attempts i ∷ q.origin i ∷ q.marks i ∷ [])

-- ---- the end
pub record SoundState (e : End) : Type 0 where
  pub sources : length e.sources ≡ 8
  pub host : e.host.0 < 8
  pub params : all_of (params_tests e.params) ≡ true
  pub delay : delay_in e.params ≡ true
  pub clock : e.clock < 281474976710656
  pub next : e.next ≤ 65536
  pub each : (h : ℕ) → h < 8 → SoundSource e.host e.next e.clock (is_member e.status) (as_host h) (get_or e.sources h no_source)

pub facts : (e : End) → sound_of e ≡ true → SoundState e
unfolding sound_of
facts e t =
    let q = sound-end e t in
    record {
      sources = q.sources;
      host = q.host;
      params = nth (sound_tests e) 2 t;
      delay = nth (sound_tests e) 6 t;
      clock = q.clock;
      next = q.next;
      each = λ h l. source-facts e.host e.next e.clock (is_member e.status) (as_host h) (get_or e.sources h no_source) (q.each h l);
    }

pub sound : (e : End) → SoundState e → sound_of e ≡ true
unfolding sound_of
sound e f =
    let each : ℕ → Bool = λ h. source_sound e.host e.next e.clock (is_member e.status) (as_host h) (get_or e.sources h no_source) in
    let sources = all_intro each 8 (λ h l. source_sound_lem e.host e.next e.clock (is_member e.status) (as_host h) (get_or e.sources h no_source) (f.each h l)) in
    let long = eq-eqb (length e.sources) 8 f.sources in
    let host = lt-ltb e.host.0 8 f.host in
    let clock = lt-ltb e.clock 281474976710656 f.clock in
    let next = le-leb e.next 65536 f.next in
    λ i. all_of (long i ∷ host i ∷ f.params i ∷ clock i ∷ next i ∷ sources i ∷ f.delay i ∷ [])

-- so the ranges of every wait follow
pub ranges_of : (e : End) → SoundState e → (h : Host) → h.0 < 8 → Ranges (moment_of e) (distance_to e h)
ranges_of e f = ranges e (ready e e.clock (sound e f) f.clock)
