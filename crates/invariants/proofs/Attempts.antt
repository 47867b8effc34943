-- What keeps the first original of a source and the marks of what was done to fetch a number sound: an original opens the source, first moves
-- up, and marks are stored.
use mathlib.Core.Path.{◌≡◌, refl, ap, ◌∙◌, subst}
use Prim.Native.Nat.{ℕ, ◌+◌, ◌≤◌, ◌<◌}
use native.Mathlib.Omega.{arith}
use mathlib.Core.Bool.{Bool, true, false, not, ◌&&◌, ◌||◌}
use mathlib.Core.List.{List}
use lib.ListN.{get_or, set}
use lib.Dec.{eqb, leb}
use borrow.Author.Tests.{eqb-true, leb-true, le-leb}
use Rattle.numbers.specs.Bits.{bit, with_bit}
use Rattle.numbers.proofs.BitLaws.{bit_with, bit-other, bit-none, bit-some}
use Rattle.message.specs.declared.Host.{Host}
use Rattle.message.specs.declared.CueNumber.{CueNumber}
use Rattle.message.specs.Question.{same_host}
use Rattle.message.proofs.QuestionLaws.{and_both}
use Rattle.end.specs.Parts.{Closed, Open, Origin, NoOrigin, From}
use Rattle.end.specs.declared.Attempt.{Attempt}
use Rattle.end.specs.declared.Source.{Source}
use Rattle.end.specs.State.{no_attempt}
use Rattle.end.specs.Records.{place, record_at, fetchable, attempt_at, with_attempt}
use Rattle.end.specs.Sound.{origin_sound, attempt_sound, lowest, attempts_sound}
use Rattle.end.specs.Fetch.{tries, hands_late}
use Rattle.end.proofs.Tools.{clash', eqb_flip, set_elim}
use Rattle.end.proofs.SoundLaws.{all-at}
use Rattle.end.proofs.AttemptLaws.{below, tried-fetchable, attempts-length, own-untried}
use Rattle.invariants.proofs.Facts.{all_intro, SoundSource, source_sound_lem}

-- ---- the first original

-- a source with no first has none
pub none_before : (own : Bool) (x : Origin) → origin_sound own Closed x ≡ true → x ≡ NoOrigin
none_before own NoOrigin h = refl
none_before own (From n) h = clash' h

-- first moves up only
pub origin-up : (own : Bool) (x : Origin) (first last first' last' : CueNumber) → origin_sound own (Open first last) x ≡ true → first.0 ≤ first'.0
    → origin_sound own (Open first' last') x ≡ true
origin-up own NoOrigin first last first' last' h l = h
origin-up own (From n) first last first' last' h l =
    let both = and_both (not own) (leb n.0 first.0) h in
    let up = le-leb n.0 first'.0 (omega (arith, leb-true n.0 first.0 both.1)) in
    λ i. both.0 i && up i

-- ---- the marks

-- where nothing was done the marks are sound, whether the number may be fetched or not
blank-sound : (me : Host) (may : Bool) (a : Attempt) → attempt_sound me false a ≡ true → attempt_sound me may a ≡ true
blank-sound me false a h = h
blank-sound me true a h =
    let both = and_both (eqb a.tried 0) (not a.late) h in
    let own = ap (λ (t : ℕ). bit t me.0) (eqb-true a.tried 0 both.0) ∙ bit-none me.0 in
    λ i. not (own i) && (both.1 i || not (eqb a.tried 0))

-- the first original opens a source, of which nothing was fetched before
pub marks_opened : (me : Host) (l : List Attempt) (n : CueNumber) → attempts_sound me NoOrigin l 64 ≡ true → attempts_sound me (From n) l 64 ≡ true
marks_opened me l n h =
    all_intro _ 64 (λ i k.
    let m = lowest (From n) + i in
    let twice : place (0 + place m) ≡ place m = omega arith in
    blank-sound me (fetchable (From n) m) (get_or l (place m) no_attempt)
    (subst (λ (j : ℕ). attempt_sound me false (get_or l j no_attempt) ≡ true) twice
    (all-at (λ i. attempt_sound me false (get_or l (place (0 + i)) no_attempt)) 64 (place m) h (omega arith))))

-- marks are stored of a number that may be fetched
low_in_lem : (x : Origin) (n : ℕ) → fetchable x n ≡ true → (lowest x ≤ n) × (n < lowest x + 64)
low_in_lem NoOrigin n v = clash' v
low_in_lem (From first) n v = let b = below first.0 n v in (omega (arith, b.near), omega (arith, b.under, b.near))

marks_stored : (me : Host) (x : Origin) (l : List Attempt) (n : ℕ) (a : Attempt) → fetchable x n ≡ true → attempt_sound me true a ≡ true
    → attempts_sound me x l 64 ≡ true → attempts_sound me x (set l (place n) a) 64 ≡ true
marks_stored me x l n a v p h =
    let at = low_in_lem x n v in
    all_intro _ 64 (λ i k.
    let m = lowest x + i in
    set_elim (λ (b : Attempt). attempt_sound me (fetchable x m) b ≡ true) l (place n) (place m) a no_attempt
    (λ e.
    let same : m ≡ n = omega (arith, at.0, at.1) in
    ap (λ (t : Bool). attempt_sound me t a) (ap (fetchable x) same ∙ v) ∙ p)
    (all-at (λ i. attempt_sound me (fetchable x (lowest x + i)) (get_or l (place (lowest x + i)) no_attempt)) 64 i h k))

-- ---- a source whose marks change
module _ {me : Host} {next clock : ℕ} {member : Bool} {h : Host} (s : Source) (q : SoundSource me next clock member h s) (n : ℕ) where
  marked_kept : (a : Attempt) → fetchable s.origin n ≡ true → attempt_sound me true a ≡ true → SoundSource me next clock member h (with_attempt s n a)
  unfolding record_at
  marked_kept a v p =
      let marks = marks_stored me s.origin s.attempts n a v p q.marks in
      search (q, marks, attempts-length s n a ∙ q.attempts)

  own-not : bit (attempt_at s n).tried me.0 ≡ false
  own-not = own-untried me next clock member h s (source_sound_lem me next clock member h s q) n

  -- another host is tried for a number that may be fetched
  pub tried-kept : (k : Host) → fetchable s.origin n ≡ true → same_host k me ≡ false → SoundSource me next clock member h (tries n k s)
  tried-kept k v other =
      let was = attempt_at s n in
      let own = bit-other was.tried k.0 me.0 (eqb_flip k.0 me.0 other) ∙ own-not in
      let some = bit-some (with_bit was.tried k.0) k.0 (bit_with was.tried k.0) in
      marked_kept (record { tried = with_bit was.tried k.0; late = was.late }) v
      ((λ i. not (own i) && (not was.late || not (some i))) ∙ or_last (not was.late))
    where
      or_last : (b : Bool) → (b || true) ≡ true
      or_last true = refl
      or_last false = refl

  -- the cue of a number for which a host was tried is handed out
  pub late-kept : (k : ℕ) → bit (attempt_at s n).tried k ≡ true → SoundSource me next clock member h (hands_late n s)
  late-kept k t =
      let was = attempt_at s n in
      let some = bit-some was.tried k t in
      marked_kept (record { tried = was.tried; late = true }) (tried-fetchable s n k t) (λ i. not (own-not i) && (false || not (some i)))
