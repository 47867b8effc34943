-- The laws of the answers of specs/Answers.antt, by which the three calls meet their contracts.
use mathlib.Core.Path.{◌≡◌, refl, sym, ap, ◌∙◌}
use Prim.Native.Nat.{ℕ, zero, suc, ◌≤◌, ◌<◌}
use native.Mathlib.Omega.{arith}
use mathlib.Core.Bool.{Bool, true, false, cond, ◌&&◌}
use mathlib.Core.List.{List, append-nil}
use lib.ListN.{length, replicate, length-append}
use lib.Dec.{eqb, ltb, leb}
use borrow.Author.Tests.{eq-eqb, ne_eqb, eqb-true, le-leb, lt-leb, lt-ltb, le-ltb, ltb-true}
use Rattle.numbers.specs.Splice.{splice}
use Rattle.numbers.proofs.Cases.{by_flag, by_order}
use Rattle.numbers.proofs.SpliceLaws.{splice-start}
use Rattle.numbers.proofs.NumberLaws.{length_digits}
use Rattle.message.specs.Cue.{cue_in}
use Rattle.message.specs.Limit.{host_limit, number_limit, ticks_limit, room_needed}
use Rattle.message.specs.Kind.{most_number}
use Rattle.message.specs.Entry.{cue_width}
use Rattle.message.specs.Section.{all, rises, flat, section}
use Rattle.message.specs.Message.{DATA, Meaning, Saying, bytes_of, bytes_with, held_as}
use Rattle.message.specs.Question.{refusal_of, in_range, window_fits, hosts_fit, write_refusal, written_of, output_of}
use Rattle.message.specs.declared.Message.{Message}
use Rattle.message.specs.declared.Written.{Written}
use Rattle.message.proofs.QuestionLaws.{and_both}
use Rattle.panel.specs.Answers.{is_whole, cue_test_of, own_data, data_refusal, data_answer, data_output}
use Rattle.panel.specs.Promise.{can_write}

-- 24 bytes written over 24
pub all-over : (b : List ℕ) → length b ≡ cue_width → splice 0 b (replicate cue_width 0) ≡ b
all-over b h = splice-start b (replicate cue_width 0) ∙ rw h (append-nil b)

-- ---- the cue test
pub cue_not_whole : (cue : List ℕ) → (length cue ≡ cue_width → ⊥) → 6 ≡ cue_test_of cue
unfolding cue_test_of
cue_not_whole cue h = rw (ne_eqb (length cue) cue_width h)

pub cue-tested : (cue : List ℕ) (t : Bool) → length cue ≡ cue_width → cue_in cue ≡ t → cond t 0 6 ≡ cue_test_of cue
unfolding cue_test_of
cue-tested cue t h e = rw (eq-eqb (length cue) cue_width h, e)

-- ---- the writer for DATA

-- question 10 of a sender's own DATA, its tests in the order of the definition and without those that come twice
regrouped : (host number stamp cue : Bool)
    → (host && (stamp && (((host && (number && host)) && true) && ((cue && true) && (true && true))))) ≡ (host && (number && (stamp && cue)))
regrouped false number stamp cue = refl
regrouped true false true cue = refl
regrouped true false false cue = refl
regrouped true true false cue = refl
regrouped true true true false = refl
regrouped true true true true = refl

below-is : (n : ℕ) → leb n (most_number DATA) ≡ ltb n number_limit
below-is n = by_order n number_limit
    (λ h. le-leb n (most_number DATA) (omega arith) ∙ sym (lt-ltb n number_limit h))
    (λ h. lt-leb n (most_number DATA) (omega arith) ∙ sym (le-ltb n number_limit h))

-- what a message can hold: a host, a cue number and a whole cue
abbrev pub can_hold : ℕ → ℕ → ℕ → Bool
can_hold sender number width = (ltb sender host_limit && ltb number number_limit) && eqb width cue_width

pub record Holds (sender number width : ℕ) : Type 0 where
  pub host : sender < host_limit
  pub named : number < number_limit
  pub whole : width ≡ cue_width

pub holds : (sender number width : ℕ) → can_hold sender number width ≡ true → Holds sender number width
holds sender number width h =
    let a = and_both (ltb sender host_limit && ltb number number_limit) (eqb width cue_width) h in
    let b = and_both (ltb sender host_limit) (ltb number number_limit) a.0 in
    record { host = ltb-true sender host_limit b.0; named = ltb-true number number_limit b.1; whole = eqb-true width cue_width a.1 }

-- what cannot be held cannot be written
cannot : (whole host number rest : Bool) → ((host && number) && whole) ≡ false → (whole && (host && (number && rest))) ≡ false
cannot false host number rest h = refl
cannot true false number rest h = refl
cannot true true false rest h = refl
cannot true true true rest h = absurd (let z : ◌≡◌ {A = ℕ} 0 1 = cc in omega arith)

module _ (sender number stamp : ℕ) (cue out : List ℕ) where
  abbrev said : Meaning
  said = own_data sender number stamp cue

  -- what is promised of an answer and an output
  abbrev pub Promise : ℕ → List ℕ → Type 0
  Promise r last = (r ≡ data_answer sender number stamp cue out) × (last ≡ data_output sender number stamp cue out)

  refused : (k : ℕ) → data_refusal said cue out ≡ suc k → Promise (suc k) out
  unfolding data_answer data_output
  refused k e = (rw e, rw e)

  -- no room comes first
  pub no_room : length out < room_needed → Promise 1 out
  unfolding data_refusal
  no_room h = refused 0 (rw (lt-leb room_needed (length out) h))

  range-is : in_range (most_number DATA) said ≡ (ltb sender host_limit && (ltb number number_limit && (ltb stamp ticks_limit && cue_in cue)))
  unfolding in_range all
  range-is = rw (below-is number) (regrouped (ltb sender host_limit) (ltb number number_limit) (ltb stamp ticks_limit) (cue_in cue))

  -- 11 cannot be answered no: host and source are the sender
  hosts_fit_lem : hosts_fit said ≡ true
  unfolding hosts_fit window_fits all rises
  hosts_fit_lem = rw (eq-eqb sender sender refl)

  -- the first no in plain tests
  pub refusal_in_tests : data_refusal said cue out ≡ cond (leb room_needed (length out)) (cond (can_write sender number stamp cue) 0 10) 1
  unfolding data_refusal
  refusal_in_tests = by_flag (leb room_needed (length out))
      (λ r. by_flag (is_whole cue)
      (λ w. rw (r, w, hosts_fit_lem, range-is))
      (λ w. rw (r, w)))
      (λ r. rw r)

  -- with room, what no message can hold is out of range
  pub out_of_range : room_needed ≤ length out → can_hold sender number (length cue) ≡ false → Promise 10 out
  out_of_range h f =
      let c = cannot (is_whole cue) (ltb sender host_limit) (ltb number number_limit) (ltb stamp ticks_limit && cue_in cue) f in
      refused 9 (refusal_in_tests ∙ rw (le-leb room_needed (length out) h, c))

  -- "Their promises are those of the calls behind them": the questions of a whole cue are the writer's
  pub as_writer : length cue ≡ cue_width → data_refusal said cue out ≡ write_refusal (Saying (held_as said)) out
  unfolding data_refusal write_refusal
  as_writer h = by_flag (leb room_needed (length out))
      (λ e. rw (e, eq-eqb (length cue) cue_width h))
      (λ e. rw e)

  -- a DATA's length
  pub forty : length cue ≡ cue_width → length (bytes_of said) ≡ 40
  unfolding bytes_with section flat
  forty h = simp (length-append, length_digits, h)

  -- what the writer gave for the message
  pub record Wrote (w : Written) (last : List ℕ) : Type 0 where
    pub whole : length cue ≡ cue_width
    pub written : w ≡ written_of (Saying (held_as said)) out
    pub refusal : refusal_of w.verdict ≡ write_refusal (Saying (held_as said)) out
    pub output : last ≡ output_of (Saying (held_as said)) out

  -- for a message that holds the cue's own bytes
  pub wrote_by : {bytes last : List ℕ} {m : Message} {w : Written} → length cue ≡ cue_width → bytes ≡ cue → m ≡ held_as (own_data sender number stamp bytes)
      → w ≡ written_of (Saying m) out → refusal_of w.verdict ≡ write_refusal (Saying m) out → last ≡ output_of (Saying m) out → Wrote w last
  wrote_by h b e p q r =
      let is = rw b at e in
      record { whole = h; written = rw is at p; refusal = rw is at q; output = rw is at r }

  -- is what is promised here
  module _ {w : Written} {last : List ℕ} (g : Wrote w last) where
    same_refusal : data_refusal said cue out ≡ refusal_of w.verdict
    same_refusal = as_writer g.whole ∙ sym g.refusal

    same-output : last ≡ data_output sender number stamp cue out
    unfolding data_output output_of
    same-output = rw (as_writer g.whole) g.output

    pub as_refused : (k : ℕ) → k ≡ refusal_of w.verdict → (k ≡ 0 → ⊥) → Promise k last
    unfolding data_answer
    as_refused zero f n = absurd (n refl)
    as_refused (suc k) f n =
        let r : data_refusal said cue out ≡ suc k = same_refusal ∙ sym f in
        (rw r, same-output)

    pub its_length : 0 ≡ refusal_of w.verdict → w.len ≡ 40
    unfolding written_of
    its_length z =
        let r : write_refusal (Saying (held_as said)) out ≡ 0 = sym g.refusal ∙ sym z in
        ap (λ (v : Written). v.len) g.written ∙ rw r (forty g.whole)

    pub as_written : 0 ≡ refusal_of w.verdict → Promise w.len last
    unfolding data_answer
    as_written z =
        let r : data_refusal said cue out ≡ 0 = same_refusal ∙ sym z in
        (rw r (its_length z), same-output)
