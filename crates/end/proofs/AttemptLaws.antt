-- The laws of what an end has done to fetch a number, by the number: what is read after a store, and what a sound source says of it. Of the 64
-- numbers below a first original no two stand at one place.
use mathlib.Core.Path.{◌≡◌, refl, sym, ap, ◌∙◌, subst}
use mathlib.Core.Logic.{◌≢◌}
use mathlib.Core.Bool.{Bool, true, false, cond, not, ◌&&◌, ◌||◌}
use mathlib.Core.List.{List}
use Prim.Native.Nat.{ℕ, ◌+◌, ◌-◌, ◌≤◌, ◌<◌}
use native.Mathlib.Omega.{arith}
use lib.ListN.{length, get_or, set, length-set}
use lib.Seq.{get_or-set_same, get_or-set_other}
use lib.Dec.{eqb, ltb, leb}
use borrow.Author.Tests.{eqb-true, eqb-false, ltb-true, leb-true}
use Rattle.numbers.specs.Bits.{bit}
use Rattle.numbers.proofs.BitLaws.{bit-none}
use Rattle.message.specs.declared.Host.{Host}
use Rattle.message.specs.Question.{same_host}
use Rattle.message.proofs.QuestionLaws.{and_both}
use Rattle.end.specs.Parts.{Span, Closed, Open, Origin, NoOrigin, From}
use Rattle.end.specs.declared.Attempt.{Attempt}
use Rattle.end.specs.declared.Source.{Source}
use Rattle.end.specs.State.{no_attempt}
use Rattle.end.specs.Records.{place, fetchable, attempt_at, with_attempt}
use Rattle.end.specs.Sound.{all_below, origin_sound, attempt_sound, lowest, attempts_sound, source_tests, source_sound}
use Rattle.end.proofs.Tools.{by_cond, by_test, clash, clash'}
use Rattle.end.proofs.SoundLaws.{nth, all-at}

-- ---- the numbers that may be fetched

-- a number of the 64 below the first original
pub record Below (first n : ℕ) : Type 0 where
  pub under : n < first
  pub near : first ≤ n + 64

pub below : (first n : ℕ) → ltb n first && leb first (n + 64) ≡ true → Below first n
below first n h =
    let both = and_both (ltb n first) (leb first (n + 64)) h in
    record { under = ltb-true n first both.0; near = leb-true first (n + 64) both.1 }

pub apart : (x : Origin) (n m : ℕ) → fetchable x n ≡ true → fetchable x m ≡ true → m ≢ n → place m ≢ place n
apart NoOrigin n m v w d e = clash' v
apart (From first) n m v w d e =
    let a = below first.0 n v in
    let b = below first.0 m w in
    d (omega (arith, a.under, a.near, b.under, b.near))

-- ---- reading
pub attempt_inside : (s : Source) (n : ℕ) → fetchable s.origin n ≡ true → attempt_at s n ≡ get_or s.attempts (place n) no_attempt
unfolding attempt_at
attempt_inside s n h = rw h

pub attempt_outside : (s : Source) (n : ℕ) → fetchable s.origin n ≡ false → attempt_at s n ≡ no_attempt
unfolding attempt_at
attempt_outside s n h = rw h

pub attempt_elim {κ} : (P : Attempt → Type κ) (s : Source) (n : ℕ) → (fetchable s.origin n ≡ true → P (get_or s.attempts (place n) no_attempt))
    → (fetchable s.origin n ≡ false → P no_attempt) → P (attempt_at s n)
unfolding attempt_at
attempt_elim P s n f g = by_cond P (fetchable s.origin n) f g

-- of a number that was tried, or handed out as Late, it is known that it may be fetched
pub tried-fetchable : (s : Source) (n h : ℕ) → bit (attempt_at s n).tried h ≡ true → fetchable s.origin n ≡ true
tried-fetchable s n h t =
    by_test (fetchable s.origin n) (λ f. f)
    (λ f. clash' (sym (ap (λ (a : Attempt). bit a.tried h) (attempt_outside s n f) ∙ bit-none h) ∙ t))

pub late-fetchable : (s : Source) (n : ℕ) → (attempt_at s n).late ≡ true → fetchable s.origin n ≡ true
late-fetchable s n t =
    by_test (fetchable s.origin n) (λ f. f) (λ f. clash' (sym (ap (λ (a : Attempt). a.late) (attempt_outside s n f)) ∙ t))

-- ---- storing
pub attempt_same : (s : Source) (n : ℕ) (a : Attempt) → fetchable s.origin n ≡ true → length s.attempts ≡ 64 → attempt_at (with_attempt s n a) n ≡ a
attempt_same s n a f h = attempt_inside (with_attempt s n a) n f ∙ get_or-set_same s.attempts (place n) a no_attempt (omega arith)

pub attempt_other : (s : Source) (n : ℕ) (a : Attempt) (j : ℕ) → fetchable s.origin n ≡ true → eqb j n ≡ false → attempt_at (with_attempt s n a) j ≡ attempt_at s j
attempt_other s n a j f d =
    by_test (fetchable s.origin j)
    (λ v. attempt_inside (with_attempt s n a) j v
    ∙ get_or-set_other s.attempts (place n) (place j) a no_attempt (apart s.origin n j f v (eqb-false j n d)) ∙ sym (attempt_inside s j v))
    (λ v. attempt_outside (with_attempt s n a) j v ∙ sym (attempt_outside s j v))

-- after a store, the marks of a number are those stored, at its number, or as they were
pub marked_elim {κ} : (P : Attempt → Type κ) (s : Source) (n : ℕ) (a : Attempt) (j : ℕ) → fetchable s.origin n ≡ true → length s.attempts ≡ 64
    → (j ≡ n → P a) → P (attempt_at s j) → P (attempt_at (with_attempt s n a) j)
marked_elim P s n a j f h same other =
    by_test (eqb j n)
    (λ e. let q : j ≡ n = eqb-true j n e in subst (λ (i : ℕ). P (attempt_at (with_attempt s n a) i)) (sym q) (rw (attempt_same s n a f h) (same q)))
    (λ e. rw (attempt_other s n a j f e) other)

pub attempts-length : (s : Source) (n : ℕ) (a : Attempt) → length (with_attempt s n a).attempts ≡ length s.attempts
attempts-length s n a = length-set s.attempts (place n) a

-- ---- a sound source
module _ (me : Host) (next clock : ℕ) (member : Bool) (h : Host) (s : Source) (sound : source_sound me next clock member h s ≡ true) where
  pub sound-attempts : length s.attempts ≡ 64
  sound-attempts = eqb-true (length s.attempts) 64 (nth (source_tests me next clock member h s) 7 sound)

  pub sound-origin : origin_sound (same_host h me) s.span s.origin ≡ true
  sound-origin = nth (source_tests me next clock member h s) 8 sound

  -- of each of the 64 numbers from the lowest on
  pub sound-place : (n : ℕ) → lowest s.origin ≤ n → n < lowest s.origin + 64
      → attempt_sound me (fetchable s.origin n) (get_or s.attempts (place n) no_attempt) ≡ true
  sound-place n a b =
      let low = lowest s.origin in
      let i : low + (n - low) ≡ n = omega arith in
      subst (λ (m : ℕ). attempt_sound me (fetchable s.origin m) (get_or s.attempts (place m) no_attempt) ≡ true) i
      (all-at (λ i. attempt_sound me (fetchable s.origin (low + i)) (get_or s.attempts (place (low + i)) no_attempt)) 64 (n - low)
      (nth (source_tests me next clock member h s) 9 sound) (omega arith))

  -- the marks of a number that may be fetched: no try of oneself, and a Late mark only beside a try
  pub sound_attempt : (n : ℕ) → fetchable s.origin n ≡ true → attempt_sound me true (attempt_at s n) ≡ true
  sound_attempt n f = rw (attempt_inside s n f) (go s.origin f (sound-place n))
    where
      go : (x : Origin) → fetchable x n ≡ true
          → (lowest x ≤ n → n < lowest x + 64 → attempt_sound me (fetchable x n) (get_or s.attempts (place n) no_attempt) ≡ true)
          → attempt_sound me true (get_or s.attempts (place n) no_attempt) ≡ true
      go NoOrigin v g = clash' v
      go (From first) v g =
          let b = below first.0 n v in
          sym (ap (λ (t : Bool). attempt_sound me t (get_or s.attempts (place n) no_attempt)) v) ∙ g (omega (arith, b.near)) (omega (arith, b.under, b.near))

  -- oneself is never tried
  pub own-untried : (n : ℕ) → bit (attempt_at s n).tried me.0 ≡ false
  own-untried n =
      by_test (fetchable s.origin n)
      (λ f. not-true _ (and_both (not (bit (attempt_at s n).tried me.0)) _ (sound_attempt n f)).0)
      (λ f. ap (λ (a : Attempt). bit a.tried me.0) (attempt_outside s n f) ∙ bit-none me.0)
    where
      not-true : (b : Bool) → not b ≡ true → b ≡ false
      not-true true q = clash' q
      not-true false q = refl
