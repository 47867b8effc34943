-- What the end's steps need of a state: its parameters, clock and distances are in range. Soundness and question 4 give it, and
-- setting the clock keeps it.
use mathlib.Core.Path.{◌≡◌}
use Prim.Native.Nat.{ℕ, ◌≤◌, ◌<◌}
use native.Mathlib.Omega.{arith}
use mathlib.Core.Bool.{Bool, true, false}
use lib.ListN.{get_or}
use lib.Dec.{leb}
use borrow.Author.Tests.{eqb-true, leb-true}
use Rattle.message.specs.declared.Host.{Host}
use Rattle.message.specs.Entry.{as_host}
use Rattle.message.specs.Question.{same_host}
use Rattle.message.proofs.QuestionLaws.{and_both}
use Rattle.end.specs.declared.End.{End}
use Rattle.end.specs.State.{no_source, is_member, distance_to, with_clock, moment_of}
use Rattle.end.specs.Sound.{distance_sound, params_tests, source_tests, sound_tests, sound_of}
use Rattle.end.specs.Ready.{Ranges, Ready}
use Rattle.end.proofs.SoundLaws.{nth, sound-end}

distance_most : (own : Bool) (d : ℕ) → distance_sound own d ≡ true → d ≤ 1000
distance_most true d h = omega (arith, eqb-true d 0 h)
distance_most false d h = leb-true d 1000 (and_both (leb 1 d) (leb d 1000) h).1

pub ready : (e : End) (t : ℕ) → sound_of e ≡ true → t < 281474976710656 → Ready (with_clock e t)
unfolding sound_of
ready e t h l = record {
  params = nth (sound_tests e) 2 h;
  express = leb-true e.params.express 1000 (nth (sound_tests e) 6 h);
  clock = l;
  distances = λ k hk.
      let s = get_or e.sources k no_source in
      distance_most (same_host (as_host k) e.host) s.distance
      (nth (source_tests e.host e.next e.clock (is_member e.status) (as_host k) s) 2 ((sound-end e h).each k hk));
}

-- so the ranges of every wait follow
pub ranges : (e : End) → Ready e → (h : Host) → h.0 < 8 → Ranges (moment_of e) (distance_to e h)
ranges e r h l =
    let p : (i : ℕ) → get_or (params_tests e.params) i true ≡ true = λ i. nth (params_tests e.params) i r.params in
    record {
      c1 = leb-true e.params.c1 32 (p 0);
      c2 = leb-true e.params.c2 32 (p 1);
      c3 = leb-true e.params.c3 32 (p 2);
      d1 = leb-true e.params.d1 32 (p 3);
      d2 = leb-true e.params.d2 32 (p 4);
      d3 = leb-true e.params.d3 32 (p 5);
      express = r.express;
      clock = r.clock;
      distance = r.distances h.0 l;
    }
