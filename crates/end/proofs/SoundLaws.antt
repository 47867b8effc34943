-- What a sound state says: the laws of its tests, and the facts that the theorems and the code's proofs use.
use mathlib.Core.Path.{◌≡◌, refl, sym, ap, ◌∙◌, subst}
use Prim.Native.Nat.{ℕ, zero, suc, ◌+◌, ◌-◌, ◌≤◌, ◌<◌}
use native.Mathlib.Numerals.{add-one}
use native.Mathlib.Omega.{arith}
use mathlib.Core.Bool.{Bool, true, false, cond, not, ◌&&◌, ◌||◌, true≢false}
use mathlib.Core.List.{List, [], ◌∷◌}
use lib.ListN.{length, get_or}
use borrow.Author.Tests.{eqb-true, ltb-true, leb-true}
use Rattle.numbers.proofs.Cases.{by_order}
use Rattle.message.specs.declared.Host.{Host}
use Rattle.message.specs.Cue.{cue_in}
use Rattle.message.specs.Entry.{as_host}
use Rattle.message.specs.Question.{same_host}
use Rattle.message.proofs.QuestionLaws.{and_both}
use Rattle.end.specs.declared.Slot.{Slot}
use Rattle.end.specs.declared.Slot.TheVariants.{Empty, Held, Waiting}
use Rattle.end.specs.declared.Record.{Record}
use Rattle.end.specs.Parts.{Pair, Span, Closed, Open}
use Rattle.end.specs.declared.Source.{Source}
use Rattle.end.specs.declared.End.{End}
use Rattle.end.specs.State.{no_source, is_member}
use Rattle.end.specs.Records.{is_closed, within, start, raw_at, is_held}
use Rattle.end.specs.Sound.{all_from, all_of, all_below, held_tests, inside_sound, outside_sound, record_sound, non_member_tests, source_tests, source_sound, sound_tests, sound_of}

-- ---- the tests

all-parts : (a : Bool) (bs : List Bool) → all_from a bs ≡ true → (a ≡ true) × ((i : ℕ) → get_or bs i true ≡ true)
all-parts a [] h = (h, λ i. refl)
all-parts a (b ∷ bs) h =
    let rest = all-parts (a && b) bs h in
    let both = and_both a b rest.0 in
    (both.0, go both.1 rest.1)
  where
    go : b ≡ true → ((i : ℕ) → get_or bs i true ≡ true) → (i : ℕ) → get_or (b ∷ bs) i true ≡ true
    go p q zero = p
    go p q (suc i) = q i

-- of a test with parts, the part at a place
pub nth : (bs : List Bool) (i : ℕ) → all_of bs ≡ true → get_or bs i true ≡ true
nth [] i h = refl
nth (b ∷ bs) zero h = (all-parts b bs h).0
nth (b ∷ bs) (suc i) h = (all-parts b bs h).1 i

-- a test for each number below n, and for one number more
pub all_more : (f : ℕ → Bool) (n : ℕ) → all_below f (n + 1) ≡ (all_below f n && f n)
unfolding all_below
all_more f n = rw (add-one n)

-- of a test for each number below n, the one at a number
pub all-at : (f : ℕ → Bool) (n i : ℕ) → all_below f n ≡ true → i < n → f i ≡ true
unfolding all_below
all-at f zero i h l = absurd (omega arith)
all-at f (suc n) i h l =
    let both = and_both (all_below f n) (f n) h in
    by_order i n (λ k. all-at f n i both.0 k) (λ k. let same : n ≡ i = omega arith in ap f (sym same) ∙ both.1)

-- ---- the end
pub record SoundEnd (e : End) : Type 0 where
  pub host : e.host.0 < 8
  pub clock : e.clock < 281474976710656
  pub next : e.next ≤ 65536
  pub sources : length e.sources ≡ 8
  pub each : (h : ℕ) → h < 8 → source_sound e.host e.next e.clock (is_member e.status) (as_host h) (get_or e.sources h no_source) ≡ true

pub sound-end : (e : End) → sound_of e ≡ true → SoundEnd e
unfolding sound_of
sound-end e h = record {
  host = ltb-true e.host.0 8 (nth (sound_tests e) 1 h);
  clock = ltb-true e.clock 281474976710656 (nth (sound_tests e) 3 h);
  next = leb-true e.next 65536 (nth (sound_tests e) 4 h);
  sources = eqb-true (length e.sources) 8 (nth (sound_tests e) 0 h);
  each = λ k l. all-at (λ h. source_sound e.host e.next e.clock (is_member e.status) (as_host h) (get_or e.sources h no_source)) 8 k (nth (sound_tests e) 5 h) l;
}

-- ---- one source
module _ (e : End) (h : Host) (s : Source) (sound : source_sound e.host e.next e.clock (is_member e.status) h s ≡ true) where
  pub names-length : length s.names ≡ 64
  names-length = eqb-true (length s.names) 64 (nth (source_tests e.host e.next e.clock (is_member e.status) h s) 0 sound)

  -- of each of the 64 numbers from first on
  pub record_sound_lem : (n : ℕ) → start s.span ≤ n → n < start s.span + 64 → record_sound e.host h s.pair s.span n (raw_at s.names n) ≡ true
  record_sound_lem n a b =
      let low = start s.span in
      let i : low + (n - low) ≡ n = omega arith in
      subst (λ (m : ℕ). record_sound e.host h s.pair s.span m (raw_at s.names m) ≡ true) i
      (all-at (λ i. record_sound e.host h s.pair s.span (low + i) (raw_at s.names (low + i))) 64 (n - low)
      (nth (source_tests e.host e.next e.clock (is_member e.status) h s) 5 sound) (omega arith))

  closed_is : (x : Span) → is_closed x ≡ true → x ≡ Closed
  closed_is Closed p = refl
  closed_is (Open first last) p = absurd (true≢false (sym p))

  -- a non-member has no first
  pub aside-closed : is_member e.status ≡ false → s.span ≡ Closed
  aside-closed m =
      let t : (is_member e.status || all_of (non_member_tests (same_host h e.host) s)) ≡ true = nth (source_tests e.host e.next e.clock (is_member e.status) h s) 4 sound in
      closed_is s.span (nth (non_member_tests (same_host h e.host) s) 0 (alone (is_member e.status) m t))
    where
      alone : (a : Bool) → a ≡ false → (a || all_of (non_member_tests (same_host h e.host) s)) ≡ true → all_of (non_member_tests (same_host h e.host) s) ≡ true
      alone true p q = absurd (true≢false p)
      alone false p q = q

-- ---- one name
module _ (me source : Host) (pair : Pair) (span : Span) (n : ℕ) (r : Record) (sound : record_sound me source pair span n r ≡ true) where
  inside : within span n ≡ true → inside_sound me source pair r r.slot ≡ true
  inside w = sym (ap (λ (t : Bool). cond t (inside_sound me source pair r r.slot) (outside_sound r r.slot)) w) ∙ sound

  outside : within span n ≡ false → outside_sound r r.slot ≡ true
  outside w = sym (ap (λ (t : Bool). cond t (inside_sound me source pair r r.slot) (outside_sound r r.slot)) w) ∙ sound

  -- outside first..last nothing is held
  pub outside_not_held : within span n ≡ false → is_held r.slot ≡ false
  outside_not_held w = go r.slot (outside w)
    where
      go : (x : Slot) → outside_sound r x ≡ true → is_held x ≡ false
      go Empty p = refl
      go (Held reply) p = absurd (true≢false (sym p))
      go (Waiting q x) p = refl

  -- inside, own names are held
  pub own_held : within span n ≡ true → same_host source me ≡ true → is_held r.slot ≡ true
  own_held w same = go r.slot (inside w)
    where
      go : (x : Slot) → inside_sound me source pair r x ≡ true → is_held x ≡ true
      go Empty p = p
      go (Held reply) p = refl
      go (Waiting q x) p = absurd (true≢false (sym (and_both (not (same_host source me)) _ p).0 ∙ ap not same))

  -- a held cue is 24 bytes, with its fields in range
  pub held-cue : is_held r.slot ≡ true → (length r.cue ≡ 24) × (cue_in r.cue ≡ true)
  held-cue p = go (within span n) refl
    where
      held : (x : Slot) → inside_sound me source pair r x ≡ true → is_held x ≡ true → (length r.cue ≡ 24) × (cue_in r.cue ≡ true)
      held Empty q h = absurd (true≢false (sym q))
      held (Held reply) q h = (eqb-true (length r.cue) 24 (nth (held_tests me source r reply) 0 q), nth (held_tests me source r reply) 1 q)
      held (Waiting w x) q h = absurd (true≢false (sym h))

      go : (t : Bool) → within span n ≡ t → (length r.cue ≡ 24) × (cue_in r.cue ≡ true)
      go true w = held r.slot (inside w) p
      go false w = absurd (true≢false (sym p ∙ outside_not_held w))
