-- The promises of specs/Promise.antt are kept.
use mathlib.Core.Path.{◌≡◌, refl, sym, ap, ◌∙◌}
use Prim.Native.Nat.{ℕ, zero, suc, ◌≤◌}
use native.Mathlib.Omega.{arith}
use mathlib.Core.Bool.{Bool, true, cond, ◌&&◌}
use mathlib.Core.Logic.{◌⊎◌, inl, inr}
use mathlib.Core.List.{List, [], ◌∷◌}
use mathlib.Core.Option.{some}
use lib.ListN.{length, take}
use lib.Dec.{leb}
use borrow.Author.Tests.{eqb-true, leb-true}
use Rattle.numbers.proofs.Cases.{by_flag}
use Rattle.message.specs.Cue.{cue_in}
use Rattle.message.specs.Limit.{room_needed}
use Rattle.message.specs.Entry.{cue_width}
use Rattle.message.specs.Section.{all}
use Rattle.message.specs.Message.{Meaning, Datagram, Saying, held_as}
use Rattle.message.specs.Question.{Question, first_no, refusal_of, message_questions, read_refusal, read_of, datagram_by, write_refusal, written_of, output_of}
use Rattle.message.specs.declared.Message.{Message}
use Rattle.message.specs.declared.Verdict.{Verdict}
use Rattle.message.specs.declared.Verdict.TheVariants as verdict
use Rattle.message.proofs.QuestionLaws.{and_both, number_of_verdict}
use Rattle.roundtrip.specs.Theorems.{Arrays, saying_of, said_in}
use Rattle.roundtrip.proofs.RoundTrip.{reads_back}
use Rattle.panel.specs.Answers.{verdict_of, is_whole, cue_test_of, own_data, data_refusal, answer_for, data_answer, data_output}
use Rattle.panel.specs.Promise.{can_write, VerdictHolds, WriterHolds, PanelHolds}
use Rattle.panel.proofs.AnswerLaws.{refusal_in_tests, as_writer, forty}

-- ---- the verdict
verdict-is : (s : List ℕ) → verdict_of s ≡ read_refusal s
unfolding verdict_of read_of read_refusal
verdict-is [] = refl
verdict-is (b ∷ s) = number_of_verdict (first_no (message_questions (b ∷ s)))

none-refused : read_refusal [] ≡ 0
unfolding read_refusal
none-refused = refl

abbrev Asked : ℕ → Type 0
Asked k = (k ≡ 0) ⊎ ((8 ≤ k) × (k ≤ 11))

-- the number of a question is 8 to 11, and so is the first no's
abbrev asks : Question → Bool
asks q = leb 8 q.number && leb q.number 11

first-asked : (qs : List Question) → all asks qs ≡ true → Asked (first_no qs)
unfolding all
first-asked [] h = inl refl
first-asked (q ∷ qs) h =
    let b = and_both (asks q) (all asks qs) h in
    let n = and_both (leb 8 q.number) (leb q.number 11) b.0 in
    by_flag q.passed
    (λ e. rw e (first-asked qs b.1))
    (λ e. rw e (inr (leb-true 8 q.number n.0, leb-true q.number 11 n.1)))

refusal_asked : (s : List ℕ) → Asked (read_refusal s)
unfolding read_refusal all
refusal_asked [] = inl refl
refusal_asked (b ∷ s) = first-asked (message_questions (b ∷ s)) refl

verdict-asked : (s : List ℕ) → Asked (verdict_of s)
verdict-asked s = rw (verdict-is s) (refusal_asked s)

-- what the reader says something of it does not refuse
says-accepted : (v : Verdict) (m : Message) (d : Datagram Meaning) → saying_of (datagram_by v m) ≡ some d → refusal_of v ≡ 0
says-accepted verdict.Accepted m d h = refl
says-accepted verdict.Probe m d h = refl
says-accepted (verdict.Refused k) m d h = absurd (let z : ◌≡◌ {A = ℕ} 0 1 = cc in omega arith)

said-accepted : (s : List ℕ) (d : Datagram Meaning) → said_in s ≡ some d → verdict_of s ≡ 0
unfolding verdict_of
said-accepted s d h = says-accepted (read_of s).verdict (read_of s).message d h

verdict-holds : VerdictHolds
verdict-holds = record { is_the_readers = verdict-is; one_of_lem = verdict-asked; probe_is_0 = verdict-is [] ∙ none-refused }

-- ---- the cue test
cue_in_tests : (cue : List ℕ) → cue_test_of cue ≡ cond (is_whole cue && cue_in cue) 0 6
unfolding cue_test_of
cue_in_tests cue = by_flag (is_whole cue) (λ w. rw w) (λ w. rw w)

-- ---- the writer for DATA
module _ (sender number stamp : ℕ) (cue out : List ℕ) where
  abbrev said : Meaning
  said = own_data sender number stamp cue

  abbrev m : Message
  m = held_as said

  -- the answer, and what is left in the output
  abbrev answer : ℕ
  answer = data_answer sender number stamp cue out

  abbrev left : List ℕ
  left = data_output sender number stamp cue out

  in_tests : answer ≡ cond (leb room_needed (length out)) (cond (can_write sender number stamp cue) 40 10) 1
  unfolding data_answer
  in_tests = rw (refusal_in_tests sender number stamp cue out) (by_flag (leb room_needed (length out))
      (λ r. rw r (by_flag (can_write sender number stamp cue) (λ w. rw w) (λ w. rw w)))
      (λ r. rw r))

  -- what 40 says
  written : answer ≡ 40 → (data_refusal said cue out ≡ 0) × (length cue ≡ cue_width)
  written h = by_flag (leb room_needed (length out))
      (λ r. by_flag (can_write sender number stamp cue)
      (λ w. (refusal_in_tests sender number stamp cue out ∙ rw (r, w), eqb-true (length cue) cue_width (and_both (is_whole cue) _ w).0))
      (λ w.
      let z : ◌≡◌ {A = ℕ} 10 40 = sym (in_tests ∙ rw (r, w)) ∙ h in
      absurd (omega arith)))
      (λ r.
      let z : ◌≡◌ {A = ℕ} 1 40 = sym (in_tests ∙ rw r) ∙ h in
      absurd (omega arith))

  as_writes : length cue ≡ cue_width
      → (answer ≡ answer_for (write_refusal (Saying m) out)) × (left ≡ output_of (Saying m) out)
  unfolding data_answer data_output output_of
  as_writes w = (rw (as_writer sender number stamp cue out w), rw (as_writer sender number stamp cue out w))

  accepted : answer ≡ 40 → write_refusal (Saying m) out ≡ 0
  accepted h = sym (as_writer sender number stamp cue out (written h).1) ∙ (written h).0

  its_length : answer ≡ 40 → (written_of (Saying m) out).len ≡ 40
  unfolding written_of
  its_length h = rw (accepted h) (forty sender number stamp cue out (written h).1)

  keeps : (answer ≡ 40 → ⊥) → left ≡ out
  unfolding data_answer data_output
  keeps f = go (data_refusal said cue out) refl
    where
      go : (k : ℕ) → data_refusal said cue out ≡ k → left ≡ out
      go zero e = absurd (f (rw e))
      go (suc k) e = rw e

  says_it : answer ≡ 40 → said_in (take 40 left) ≡ some (Saying said)
  says_it h =
      let w = (written h).1 in
      let arrays : Arrays m = record { names = refl; cue = w; reports = refl; echoes = refl } in
      let there : take (written_of (Saying m) out).len (output_of (Saying m) out) ≡ take 40 left
      = λ i. take (its_length h i) (sym (as_writes w).1 i) in
      ap said_in (sym there) ∙ reads_back (Saying m) out arrays (accepted h)

  writer-holds : WriterHolds sender number stamp cue out
  writer-holds = record {
    in_plain_tests = in_tests;
    is_the_writers = as_writes;
    forty_is_its_length = its_length;
    refused-keeps = keeps;
    reads_back = λ h. (said-accepted (take 40 left) (Saying said) (says_it h), says_it h);
  }

pub panel_holds : PanelHolds
panel_holds = record { verdict = verdict-holds; writer = writer-holds; cue_test = cue_in_tests }
