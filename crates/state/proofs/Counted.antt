-- Each source of a sound state is counted, and stays so when last rises.
use mathlib.Core.Path.{◌≡◌, refl}
use mathlib.Core.Bool.{Bool, true}
use Prim.Native.Nat.{ℕ, ◌-◌, ◌≤◌, ◌<◌}
use native.Mathlib.Omega.{arith}
use borrow.Author.Tests.{eqb-true, leb-true}
use Rattle.message.specs.declared.Host.{Host}
use Rattle.message.specs.Question.{same_host}
use Rattle.end.specs.declared.Record.{Record}
use Rattle.end.specs.Parts.{Span, Closed, Open}
use Rattle.end.specs.declared.Source.{Source}
use Rattle.end.specs.declared.End.{End}
use Rattle.end.specs.State.{is_member, source_at}
use Rattle.end.specs.Records.{start}
use Rattle.end.specs.Sound.{all_of, span_tests, source_tests, sound_of}
use Rattle.end.specs.Names.{holds_cue, rise_with}
use Rattle.end.specs.Ready.{SpanIn}
use Rattle.end.proofs.SoundLaws.{nth, sound-end}
use Rattle.end.proofs.Facts.{last_in_lem}
use Rattle.end.proofs.Lacking.{lacking-most}
use Rattle.end.proofs.RiseLaws.{first_now, missed-plain}
use Rattle.state.specs.Counted.{Counted}

-- ---- from the tests
count_in : (own : Bool) (next missed : ℕ) (x : Span) → all_of (span_tests own next missed x) ≡ true → missed ≤ start x
count_in own next missed Closed h = omega (arith, eqb-true missed 0 (nth (span_tests own next missed Closed) 0 h))
count_in own next missed (Open first last) h = leb-true missed first.0 (nth (span_tests own next missed (Open first last)) 4 h)

pub counted : (e : End) (h : Host) → sound_of e ≡ true → h.0 < 8 → Counted (source_at e h)
counted e h sound l =
    let s = source_at e h in
    let own = same_host h e.host in
    let tests = nth (source_tests e.host e.next e.clock (is_member e.status) h s) 1 ((sound-end e sound).each h.0 l) in
    record { span = last_in_lem own e.next s.missed s.span tests; count = count_in own e.next s.missed s.span tests }

-- ---- the count stays in its range
small-start : (x : Span) → SpanIn x → start x < 65536
small-start Closed l = omega arith
small-start (Open first last) l = omega (arith, l)

pub count_small : {s : Source} → Counted s → s.missed < 65536
count_small {s} c = omega (arith, c.count, small-start s.span c.span)

-- ---- a rise: the count grows by no more than first does
module _ (new : ℕ → Record) (n : ℕ) (s : Source) (small : n < 65536) where
  risen : (x : Span) → s.span ≡ x → SpanIn x → s.missed ≤ start x → Counted (rise_with new n s x)
  unfolding rise_with
  risen Closed p l c = record { span = rw p tt; count = rw p c }
  risen (Open first last) p l c =
      let lo = first_now new n s first last in
      let plain = missed-plain new n s first last p l.0 in
      let most = lacking-most (holds_cue s) (lo - first.0) first.0 in
      record { span = (omega (arith, l), omega (arith, l, small), omega (arith, l)); count = omega (arith, plain, most, c) }

  pub counted-rise : Counted s → Counted (rise_with new n s s.span)
  counted-rise c = risen s.span refl c.span c.count
