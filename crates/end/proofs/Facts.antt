-- What the events use of a sound end, and the sources of which nothing is kept.
use mathlib.Core.Path.{◌≡◌, refl, sym}
use mathlib.Core.Bool.{Bool, true, false, true≢false}
use Prim.Native.Nat.{ℕ, ◌+◌, ◌≤◌, ◌<◌}
use native.Mathlib.Omega.{arith}
use lib.ListN.{length, get_or, replicate, get_or-replicate}
use lib.Dec.{leb}
use borrow.Author.Tests.{leb-true, ltb-true}
use Rattle.message.specs.Entry.{as_host}
use Rattle.message.specs.Question.{same_host}
use Rattle.message.proofs.QuestionLaws.{and_both}
use Rattle.end.specs.Parts.{Span, Closed, Open}
use Rattle.end.specs.declared.Source.{Source}
use Rattle.end.specs.declared.End.{End}
use Rattle.end.specs.State.{no_source, blank_names, unheard, unheard_sources, is_member, with_clock}
use Rattle.end.specs.Records.{within, start, raw_at}
use Rattle.end.specs.Sound.{all_of, span_tests, record_sound, source_tests, source_sound, sound_of}
use Rattle.end.specs.Ready.{SpanIn}
use Rattle.end.proofs.Tools.{set_elim}
use Rattle.end.proofs.RecordLaws.{Narrow, inside}
use Rattle.end.proofs.SoundLaws.{nth, sound-end, names-length, record_sound_lem, aside-closed}

pub record Facts (e : End) : Type 0 where
  pub host : e.host.0 < 8
  pub clock : e.clock < 281474976710656
  pub sources : length e.sources ≡ 8
  pub names : (s : ℕ) → s < 8 → length (get_or e.sources s no_source).names ≡ 64
  pub spans : (s : ℕ) → s < 8 → SpanIn (get_or e.sources s no_source).span
  pub records : (s n : ℕ) → s < 8 → within (get_or e.sources s no_source).span n ≡ true
      → record_sound e.host (as_host s) (get_or e.sources s no_source).pair (get_or e.sources s no_source).span n (raw_at (get_or e.sources s no_source).names n) ≡ true
  pub aside : is_member e.status ≡ false → (s : ℕ) → s < 8 → (get_or e.sources s no_source).span ≡ Closed

pub last_in_lem : (own : Bool) (next missed : ℕ) (x : Span) → all_of (span_tests own next missed x) ≡ true → SpanIn x
last_in_lem own next missed Closed h = tt
last_in_lem own next missed (Open first last) h =
    let tests = span_tests own next missed (Open first last) in
    (leb-true first.0 last.0 (nth tests 0 h), ltb-true last.0 65536 (nth tests 1 h), leb-true last.0 (first.0 + 63) (nth tests 3 h))

-- a number in first..last is one of the 64 from first on
pub among_64 : (x : Span) (n : ℕ) → SpanIn x → within x n ≡ true → (start x ≤ n) × (n < start x + 64)
among_64 Closed n l h = absurd (true≢false (sym h))
among_64 (Open first last) n l h =
    let i = inside first.0 last.0 n h in
    (i.low, omega (arith, l.2, i.high))

span_in : (e : End) (s : ℕ) → let x = get_or e.sources s no_source in source_sound e.host e.next e.clock (is_member e.status) (as_host s) x ≡ true → SpanIn x.span
span_in e s h =
    let x = get_or e.sources s no_source in
    last_in_lem (same_host (as_host s) e.host) e.next x.missed x.span (nth (source_tests e.host e.next e.clock (is_member e.status) (as_host s) x) 1 h)

pub facts : (e : End) → sound_of e ≡ true → Facts e
facts e h =
    let q = sound-end e h in
    record {
      host = q.host;
      clock = q.clock;
      sources = q.sources;
      names = λ s l. names-length e (as_host s) (get_or e.sources s no_source) (q.each s l);
      spans = λ s l. span_in e s (q.each s l);
      records = λ s n l k.
          let x = get_or e.sources s no_source in
          let there = among_64 x.span n (span_in e s (q.each s l)) k in
          record_sound_lem e (as_host s) x (q.each s l) n there.0 there.1;
      aside = λ m s l. aside-closed e (as_host s) (get_or e.sources s no_source) (q.each s l) m;
    }

-- setting the clock keeps them
pub facts-clock : (e : End) (t : ℕ) → t < 281474976710656 → Facts e → Facts (with_clock e t)
facts-clock e t l f = record {
  host = f.host;
  clock = l;
  sources = f.sources;
  names = f.names;
  spans = f.spans;
  records = f.records;
  aside = f.aside;
}

-- a sound span has 1 to 64 numbers, each below 65,536
pub narrow : (x : Span) → SpanIn x → Narrow x
narrow Closed l = tt
narrow (Open first last) l = (l.0, l.2)

pub within-small : (x : Span) (n : ℕ) → SpanIn x → within x n ≡ true → n < 65536
within-small Closed n l h = absurd (true≢false (sym h))
within-small (Open first last) n l h = omega (arith, l.1, (inside first.0 last.0 n h).high)

-- each of the eight sources of which nothing is kept
pub unheard-at : (me s : ℕ) → s < 8 → ((get_or (unheard_sources me) s no_source).span ≡ Closed) × ((get_or (unheard_sources me) s no_source).names ≡ blank_names)
unheard-at me s hs =
    set_elim (λ (y : Source). (y.span ≡ Closed) × (y.names ≡ blank_names)) (replicate 8 (unheard 40)) me s (unheard 0) no_source (λ i. (refl, refl))
    (rw (get_or-replicate 8 s (unheard 40) no_source hs) (refl, refl))
