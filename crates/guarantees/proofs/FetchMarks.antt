-- The marks of the numbers below a source's first original stay by every event but a Fetch, a kind 23, Leave and Crash: a rise and a changed
-- record do not touch them, and a source that begins has none.
use mathlib.Core.Path.{◌≡◌, refl, sym, ap, ◌∙◌, subst}
use mathlib.Core.Bool.{Bool, true, false, not, ◌&&◌}
use mathlib.Core.List.{List, [], ◌∷◌}
use Prim.Native.Nat.{ℕ, ◌+◌, ◌<◌}
use native.Mathlib.Omega.{arith}
use lib.ListN.{get_or}
use lib.Dec.{eqb}
use borrow.Author.Tests.{eqb-true, not-true}
use Rattle.message.specs.declared.Host.{Host}
use Rattle.message.specs.declared.Report.{Report}
use Rattle.message.specs.Message.{Meaning}
use Rattle.message.specs.Question.{same_host}
use Rattle.message.proofs.QuestionLaws.{and_both}
use Rattle.end.specs.declared.Record.{Record}
use Rattle.end.specs.Parts.{No, Due, Span, Closed, Open, Origin, NoOrigin, Earliest, NoWait, First}
use Rattle.end.specs.declared.Slot.{Slot}
use Rattle.end.specs.declared.Slot.TheVariants.{Empty, Held, Waiting}
use Rattle.end.specs.declared.Attempt.{Attempt}
use Rattle.end.specs.declared.Source.{Source}
use Rattle.end.specs.declared.End.{End}
use Rattle.end.specs.declared.Moment.{Moment}
use Rattle.end.specs.declared.Says.{Says}
use Rattle.end.specs.declared.Word.{Word}
use Rattle.end.specs.declared.Decision.{Decision}
use Rattle.end.specs.declared.Decision.TheVariants.{Ignores, Opens, Takes, Repairs, Hushes, Replies, Learns, BacksOff, Clashes, Expresses}
use Rattle.end.specs.State.{no_source, no_attempt, source_at, moment_of, with_source, on_source}
use Rattle.end.specs.Records.{is_above, place, record_at, fetchable, attempt_at}
use Rattle.end.specs.Names.{rise_with}
use Rattle.end.specs.Sound.{origin_sound, attempt_sound, attempts_sound}
use Rattle.end.specs.Answer.{Class, PutsOut, HandsOut, HandsLate, Untouched, class_of, Step}
use Rattle.end.specs.Decide.{known, apply, effect_of, decide, step_at}
use Rattle.end.specs.Session.{reported_source, all_reported, heard_from, session_of}
use Rattle.end.specs.Arrival.{message_name, word_of, word_step}
use Rattle.end.specs.Fire.{express_rank, fire_at, fired}
use Rattle.end.specs.Event.{extended, send_of}
use Rattle.end.specs.Book.{source}
use Rattle.end.proofs.AttemptLaws.{attempt_outside, attempt_elim}
use Rattle.end.proofs.Grounds.{Grounds, grounds}
use Rattle.end.proofs.RecordLaws.{place_in}
use Rattle.end.proofs.SoundLaws.{all-at}
use Rattle.end.proofs.Tools.{by_cond, set_elim}
use Rattle.invariants.proofs.Facts.{SoundSource, SoundState}
use Rattle.invariants.proofs.Attempts.{none_before}
use Rattle.guarantees.proofs.Names.{source_of}
use Rattle.guarantees.proofs.HistoryKept.{rise-origin}

-- ---- one source

-- the marks go by the first original and by what is stored
alike : (s p : Source) (n : ℕ) → p.origin ≡ s.origin → p.attempts ≡ s.attempts → attempt_at p n ≡ attempt_at s n
unfolding attempt_at
alike s p n from stored = rw (from, stored)

rise-attempts : (new : ℕ → Record) (n : ℕ) (s : Source) (x : Span) → (rise_with new n s x).attempts ≡ s.attempts
unfolding rise_with
rise-attempts new n s Closed = refl
rise-attempts new n s (Open first last) = refl

rise_marks : (new : ℕ → Record) (n : ℕ) (s : Source) (x : Span) (j : ℕ) → attempt_at (rise_with new n s x) j ≡ attempt_at s j
rise_marks new n s x j = alike s (rise_with new n s x) j (rise-origin new n s x) (rise-attempts new n s x)

extended_marks : (t : Moment) (us : List ℕ) (n : ℕ) (s : Source) (x : Span) (j : ℕ) → attempt_at (extended t us n s x) j ≡ attempt_at s j
extended_marks t us n s Closed j = alike s (extended t us n s Closed) j refl refl
extended_marks t us n s (Open first last) j = rise_marks _ n s (Open first last) j

-- a source with no first has none: nothing is marked, and nothing stands in any place
blank-place : (me : Host) (l : List Attempt) → attempts_sound me NoOrigin l 64 ≡ true → (n : ℕ) → get_or l (place n) no_attempt ≡ no_attempt
blank-place me l h n =
    let twice : place (0 + place n) ≡ place n = omega arith in
    blank (get_or l (place n) no_attempt) (subst (λ (j : ℕ). attempt_sound me false (get_or l j no_attempt) ≡ true) twice
    (all-at (λ i. attempt_sound me false (get_or l (place (0 + i)) no_attempt)) 64 (place n) h (place_in n)))
  where
    blank : (a : Attempt) → attempt_sound me false a ≡ true → a ≡ no_attempt
    blank a t =
        let both = and_both (eqb a.tried 0) (not a.late) t in
        let tried = eqb-true a.tried 0 both.0 in
        let late = not-true a.late both.1 in
        λ i. record { tried = tried i; late = late i }

module _ {me : Host} {next clock : ℕ} {member : Bool} {h : Host} (s : Source) (q : SoundSource me next clock member h s) (closed : s.span ≡ Closed) where
  no_origin : s.origin ≡ NoOrigin
  no_origin = none_before (same_host h me) s.origin (sym (ap (λ (x : Span). origin_sound (same_host h me) x s.origin) closed) ∙ q.origin)

  pub closed_marks : (n : ℕ) → attempt_at s n ≡ no_attempt
  closed_marks n = attempt_outside s n (ap (λ (x : Origin). fetchable x n) no_origin)

  -- so a source that begins has none
  begun_marks : (p : Source) → p.attempts ≡ s.attempts → (n : ℕ) → attempt_at p n ≡ attempt_at s n
  begun_marks p stored n = attempt_elim (λ (a : Attempt). a ≡ attempt_at s n) p n
      (λ _. ap (λ (l : List Attempt). get_or l (place n) no_attempt) stored
      ∙ blank-place me s.attempts (sym (ap (λ (x : Origin). attempts_sound me x s.attempts 64) no_origin) ∙ q.marks) n ∙ sym (closed_marks n))
      (λ _. sym (closed_marks n))

-- ---- the end: a step after which every mark is as it was, and nothing is handed out as Late
abbrev pub is_late : Class → Bool
is_late (PutsOut bytes) = false
is_late (HandsOut name cue) = false
is_late (HandsLate name cue) = true
is_late Untouched = false

abbrev pub SameMarks : End → End → Type 0
SameMarks e p = (s n : ℕ) → s < 8 → attempt_at (source_of p s) n ≡ attempt_at (source_of e s) n

pub record Unmarked (e : End) (r : Step) : Type 0 where
  pub answer : is_late (class_of r.effect) ≡ false
  pub marks : SameMarks e r.left

-- one source is another with the same marks
stored_marks : (e : End) (k : Host) (x : Source) → ((n : ℕ) → attempt_at x n ≡ attempt_at (source_at e k) n) → SameMarks e (with_source e k x)
stored_marks e k x same s n hs = set_elim (λ (y : Source). attempt_at y n ≡ attempt_at (source_of e s) n) e.sources k.0 s x no_source
    (λ i. same n ∙ ap (λ (j : ℕ). attempt_at (source_of e j) n) (sym i)) refl

reported_marks : (t : Moment) (us : List ℕ) (r : Report) (s : Source) (n : ℕ) → attempt_at (reported_source t us r s) n ≡ attempt_at s n
reported_marks t us r s n = by_cond (λ (x : Source). attempt_at x n ≡ attempt_at s n) (not (same_host r.source t.me) && is_above s.span r.last.0)
    (λ _. rise_marks _ r.last.0 s s.span n) (λ _. refl)

reports_marks : (t : Moment) (us : List ℕ) (rs : List Report) (e : End) → SameMarks e (all_reported t us rs e)
unfolding all_reported
reports_marks t us [] e s n hs = refl
reports_marks t us (r ∷ rs) e s n hs =
    reports_marks t us rs (on_source e r.source (reported_source t us r)) s n hs
    ∙ stored_marks e r.source _ (reported_marks t us r (source_at e r.source)) s n hs

pub session_marks : (t : Moment) (us : List ℕ) (m : Meaning) (e : End) → Unmarked e (session_of t us m e)
unfolding session_of
session_marks t us m e = let now = all_reported t us m.reports e in
    record {
      answer = refl;
      marks = λ s n hs.
          stored_marks now m.sender (heard_from t m (source_at now m.sender)) (λ j. alike (source_at now m.sender) _ j refl refl) s n hs
          ∙ reports_marks t us m.reports e s n hs;
    }

pub fire_marks : (us : List ℕ) (e : End) (x : Earliest) → Unmarked e (fired us e x)
unfolding fired fire_at
fire_marks us e NoWait = record { answer = refl; marks = λ s n hs. refl }
fire_marks us e (First w) = go (record_at p w.name.number.0).slot
  where
    p : Source
    p = source_at e w.name.source

    stored : (x : Source) → x.origin ≡ p.origin → x.attempts ≡ p.attempts → SameMarks e (with_source e w.name.source x)
    stored x from same = stored_marks e w.name.source x (λ n. alike p x n from same)

    go : (x : Slot) → Unmarked e (fire_at us w.rank w.name e x)
    go Empty = record { answer = refl; marks = λ s n hs. refl }
    go (Waiting q x) = by_cond (Unmarked e) (eqb w.rank express_rank)
        (λ _. record { answer = refl; marks = stored _ refl refl }) (λ _. record { answer = refl; marks = stored _ refl refl })
    go (Held No) = record { answer = refl; marks = λ s n hs. refl }
    go (Held (Due due k)) = record { answer = refl; marks = stored _ refl refl }

pub send_marks : (us cue : List ℕ) (e : End) → Unmarked e (send_of us cue e)
send_marks us cue e =
    let p = source_at e e.host in
    let x = extended (moment_of e) us e.next p p.span in
    record {
      answer = refl;
      marks = λ s n hs. stored_marks e e.host _ (λ j. alike x _ j refl refl ∙ extended_marks (moment_of e) us e.next p p.span j) s n hs;
    }

-- ---- DATA, RQST, REPL and XPRS, by what was decided
module _ (us : List ℕ) (m : Meaning) (e : End) (f : SoundState e) (says : Says) (hs : source m < 8) where
  abbrev t₀ : Moment
  t₀ = moment_of e

  abbrev w₀ : Word
  w₀ = word_of says m e

  abbrev s₀ : Source
  s₀ = source_at e (message_name m).source

  decided : (d : Decision) → Grounds t₀ w₀ (known w₀ s₀) s₀.span d → (n : ℕ) → attempt_at (apply t₀ us w₀ d s₀) n ≡ attempt_at s₀ n
  unfolding Grounds apply
  decided (Ignores why) g n = refl
  decided Opens g n = begun_marks s₀ (f.each (source m) hs) g.1 _ refl n
  decided Takes g n = alike (rise_with _ _ s₀ s₀.span) _ n refl refl ∙ rise_marks _ _ s₀ s₀.span n
  decided Repairs g n = alike (rise_with _ _ s₀ s₀.span) _ n refl refl ∙ rise_marks _ _ s₀ s₀.span n
  decided Hushes g n = alike s₀ _ n refl refl
  decided Replies g n = alike s₀ _ n refl refl
  decided Learns g n = alike (rise_with _ _ s₀ s₀.span) _ n refl refl ∙ rise_marks _ _ s₀ s₀.span n
  decided (BacksOff k) g n = alike s₀ _ n refl refl
  decided Clashes g n = refl
  decided Expresses g n = alike s₀ _ n refl refl

  not_late : (d : Decision) → is_late (class_of (effect_of t₀ w₀ (known w₀ s₀) d)) ≡ false
  unfolding effect_of
  not_late (Ignores why) = refl
  not_late Opens = refl
  not_late Takes = refl
  not_late Repairs = refl
  not_late Hushes = refl
  not_late Replies = refl
  not_late Learns = refl
  not_late (BacksOff k) = refl
  not_late Clashes = refl
  not_late Expresses = refl

  pub word_marks : Unmarked e (word_step us says m e)
  unfolding step_at
  word_marks =
      let d = decide t₀ w₀ s₀ in
      record { answer = not_late d; marks = stored_marks e (message_name m).source _ (decided d (grounds t₀ w₀ (known w₀ s₀) s₀.span)) }
