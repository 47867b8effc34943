-- A sound state at a clock not below its own is settled.
use mathlib.Core.Path.{◌≡◌, refl, sym, ap, ◌∙◌}
use Prim.Native.Nat.{ℕ, ◌≤◌, ◌<◌}
use native.Mathlib.Omega.{arith}
use mathlib.Core.Bool.{Bool, true, false, cond, not, true≢false}
use lib.ListN.{get_or}
use borrow.Author.Tests.{eq-eqb, leb-true, ltb-true}
use Rattle.message.specs.declared.Host.{Host}
use Rattle.message.specs.Entry.{as_host}
use Rattle.message.specs.Question.{same_host}
use Rattle.end.specs.declared.Slot.{Slot}
use Rattle.end.specs.declared.Slot.TheVariants.{Empty, Held, Waiting}
use Rattle.end.specs.Parts.{No, Due, Pair, Span, Heard, Never, At}
use Rattle.end.specs.declared.Record.{Record}
use Rattle.end.specs.declared.End.{End}
use Rattle.end.specs.State.{no_source, is_member, source_at, with_clock}
use Rattle.end.specs.Records.{within, raw_at, reply_in}
use Rattle.end.specs.Sound.{all_of, reply_tests, held_tests, inside_sound, outside_sound, record_sound, heard_tests, source_tests, sound_of}
use Rattle.end.specs.Ready.{HeardBy}
use Rattle.end.proofs.SoundLaws.{nth, sound-end}
use Rattle.end.proofs.RecordLaws.{at_elim}
use Rattle.end.proofs.Facts.{facts}
use Rattle.end.proofs.Ready.{ready}
use Rattle.state.specs.Settled.{Asked, Settled}
use Rattle.state.proofs.Counted.{counted}

-- ---- from the tests
asked_in : (me source : Host) (pair : Pair) (span : Span) (n : ℕ) (r : Record) → record_sound me source pair span n r ≡ true → Asked (reply_in r.slot)
asked_in me source pair span n r h = go (within span n) r.slot h
  where
    go : (t : Bool) (x : Slot) → cond t (inside_sound me source pair r x) (outside_sound r x) ≡ true → Asked (reply_in x)
    go t Empty p = tt
    go t (Waiting q x) p = tt
    go t (Held No) p = tt
    go true (Held (Due due requester)) p =
        ltb-true requester.0 8 (nth (reply_tests me source (Due due requester)) 1 (nth (held_tests me source r (Due due requester)) 2 p))
    go false (Held (Due due requester)) p = absurd (true≢false (sym p))

heard_in_lem : (own : Bool) (clock t : ℕ) (x : Heard) → clock ≤ t → all_of (heard_tests own clock x) ≡ true → HeardBy t x
heard_in_lem own clock t Never l h = tt
heard_in_lem own clock t (At stamp when reported) l h = omega (arith, l, leb-true when clock (nth (heard_tests own clock (At stamp when reported)) 2 h))

never-own : (own : Bool) (clock : ℕ) (x : Heard) → own ≡ true → all_of (heard_tests own clock x) ≡ true → x ≡ Never
never-own own clock Never p h = refl
never-own own clock (At stamp when reported) p h = absurd (true≢false (sym (nth (heard_tests own clock (At stamp when reported)) 0 h) ∙ ap not p))

pub settled : (e : End) (t : ℕ) → sound_of e ≡ true → t < 281474976710656 → e.clock ≤ t → Settled (with_clock e t)
settled e t h l m =
    let s = sound-end e h in
    let f = facts e h in
    let heard : (k : ℕ) → k < 8 → all_of (heard_tests (same_host (as_host k) e.host) e.clock (get_or e.sources k no_source).heard) ≡ true =
    λ k hk. nth (source_tests e.host e.next e.clock (is_member e.status) (as_host k) (get_or e.sources k no_source)) 3 (s.each k hk) in
    record {
      ready = ready e t h l;
      host = s.host;
      counts = λ k hk. counted e k h hk;
      asked = λ k n hk. at_elim (λ (r : Record). Asked (reply_in r.slot)) (source_at e k) n
          (λ w. asked_in e.host k (source_at e k).pair (source_at e k).span n (raw_at (source_at e k).names n) (f.records k.0 n hk w))
          (λ w. tt);
      heard = λ k hk. heard_in_lem (same_host k e.host) e.clock t (source_at e k).heard m (heard k.0 hk);
      own = never-own (same_host e.host e.host) e.clock (source_at e e.host).heard (eq-eqb e.host.0 e.host.0 refl)
          (heard e.host.0 s.host);
    }
