-- Before the next due time no wait is chosen, and from it on one is, which goes out.
use mathlib.Core.Path.{◌≡◌, refl, sym, ap, ◌∙◌, subst}
use mathlib.Core.Bool.{true}
use mathlib.Core.List.{List}
use mathlib.Core.Logic.{inl, inr}
use Prim.Native.Nat.{ℕ, zero, suc, ◌+◌, ◌-◌, min, ◌≤◌, ◌<◌}
use native.Mathlib.Omega.{arith}
use lib.ListN.{length, get_or}
use lib.Dec.{ltb, leb}
use borrow.Author.Tests.{eq-eqb, le-leb, lt-ltb, ltb-true, ltb-false, leb-true}
use Rattle.message.specs.declared.Name.{Name}
use Rattle.message.proofs.QuestionLaws.{and_both}
use Rattle.end.specs.declared.Slot.{Slot}
use Rattle.end.specs.declared.Slot.TheVariants.{Empty, Held, Waiting}
use Rattle.end.specs.Parts.{Unset, Soon, No, Due, Span, Closed, Open}
use Rattle.end.specs.declared.Wait.{Wait}
use Rattle.end.specs.declared.Source.{Source}
use Rattle.end.specs.declared.Status.{Status}
use Rattle.end.specs.declared.Status.TheVariants.{Idle, Joining, Member, Leaving, Crashed}
use Rattle.end.specs.declared.End.{End}
use Rattle.end.specs.State.{no_source, source_at, is_member, with_clock}
use Rattle.end.specs.Records.{within, start, width, record_at}
use Rattle.end.specs.Fire.{fold_up}
use Rattle.end.specs.Answer.{Outcome, Result, answer_of, buffer_of, called_of}
use Rattle.end.specs.Event.{Else, Fire, question_of, event_of}
use Rattle.end.proofs.Tools.{by_cond, by_test, clash'}
use Rattle.invariants.proofs.Questions.{passes}
use Rattle.guarantees.specs.Waits.{waits_in, waits_at, Among}
use Rattle.guarantees.proofs.Choice.{choice_is_earliest, due-inside}
use Rattle.guarantees.proofs.Fires.{due_means_out}
use Rattle.end_due.specs.Due.{never, least, slot_due, names_due, sources_due, next_due, due_of}
use Rattle.end_due.proofs.DueLaws.{before_due_event, from-due}
use Rattle.lent_answer.specs.Number.{number_of, of_kind, OUT}
use Rattle.lent_end.specs.State.{end_from}
use Rattle.lent_calls.specs.Call.{after, call_number, call_state, call_out}
use Rattle.lent_looks.specs.Looks.{look, due_in}
use Rattle.lent_runs.specs.Due.{DueIsLeast, ByDue, FireByDue, FireLent, LentFireByDue}
use Rattle.lent_runs.proofs.Numbers.{out_short}

pub member_is : (x : Status) → is_member x ≡ true → x ≡ Member
member_is Idle m = clash' m
member_is Joining m = clash' m
member_is Member m = refl
member_is Leaving m = clash' m
member_is Crashed m = clash' m

-- ---- the least due time of all waits

-- a wait makes the time no later
lower : (a b : ℕ) → least a b ≤ b
lower a b = by_cond (λ (x : ℕ). x ≤ b) (ltb a b) (λ t. omega (arith, ltb-true a b t)) (λ _. omega arith)

slot_low : (s : Slot) (m : ℕ) → slot_due s m ≤ m
slot_low Empty m = omega arith
slot_low (Waiting q Unset) m = lower q.due m
slot_low (Waiting q (Soon due)) m = omega (arith, lower q.due (least due m), lower due m)
slot_low (Held No) m = omega arith
slot_low (Held (Due due requester)) m = lower due m

names_low : (s : Source) (m k : ℕ) → names_due s m k ≤ m
unfolding fold_up
names_low s m zero = omega arith
names_low s m (suc k) = omega (arith, names_low s m k, slot_low (record_at s (start s.span + k)).slot (names_due s m k))

sources_low : (all : List Source) (k : ℕ) → sources_due all k ≤ never
unfolding fold_up
sources_low all zero = omega arith
sources_low all (suc k) =
    let s = get_or all k no_source in
    omega (arith, sources_low all k, names_low s (sources_due all k) (width s.span))

due_low : (e : End) → next_due e ≤ never
unfolding next_due
due_low e = sources_low e.sources 8

lower-left : (a b : ℕ) → least a b ≤ a
lower-left a b = by_cond (λ (x : ℕ). x ≤ a) (ltb a b) (λ _. omega arith) (λ t. ltb-false a b t)

-- and no later than its own
slot_least : (name : Name) (x : Slot) (w : Wait) → Among w (waits_in name x) → (m : ℕ) → slot_due x m ≤ w.due
unfolding waits_in
slot_least name Empty w a m = absurd a
slot_least name (Waiting q Unset) w (inl p) m = subst (λ (v : Wait). least q.due m ≤ v.due) p (lower-left q.due m)
slot_least name (Waiting q Unset) w (inr a) m = absurd a
slot_least name (Waiting q (Soon due)) w (inl p) m =
    subst (λ (v : Wait). least q.due (least due m) ≤ v.due) p (omega (arith, lower q.due (least due m), lower-left due m))
slot_least name (Waiting q (Soon due)) w (inr (inl p)) m =
    subst (λ (v : Wait). least q.due (least due m) ≤ v.due) p (lower-left q.due (least due m))
slot_least name (Waiting q (Soon due)) w (inr (inr a)) m = absurd a
slot_least name (Held No) w a m = absurd a
slot_least name (Held (Due due requester)) w (inl p) m = subst (λ (v : Wait). least due m ≤ v.due) p (lower-left due m)
slot_least name (Held (Due due requester)) w (inr a) m = absurd a

names-least : (s : Source) (m bound i k : ℕ) → ((x : ℕ) → slot_due (record_at s (start s.span + i)).slot x ≤ bound) → i < k → names_due s m k ≤ bound
unfolding fold_up
names-least s m bound i zero h l = absurd (omega (arith, l))
names-least s m bound i (suc k) h l = by_test (ltb i k)
    (λ t. omega (arith, slot_low (record_at s (start s.span + k)).slot (names_due s m k), names-least s m bound i k h (ltb-true i k t)))
    (λ t.
    let same : i ≡ k = omega (arith, l, ltb-false i k t) in
    subst (λ (j : ℕ). slot_due (record_at s (start s.span + j)).slot (names_due s m k) ≤ bound) same (h (names_due s m k)))

abbrev source_due : Source → ℕ → ℕ
source_due s x = names_due s x (width s.span)

sources-least : (all : List Source) (bound h k : ℕ) → ((x : ℕ) → source_due (get_or all h no_source) x ≤ bound) → h < k → sources_due all k ≤ bound
unfolding fold_up
sources-least all bound h zero f l = absurd (omega (arith, l))
sources-least all bound h (suc k) f l = by_test (ltb h k)
    (λ t. omega (arith, names_low (get_or all k no_source) (sources_due all k) (width (get_or all k no_source).span), sources-least all bound h k f (ltb-true h k t)))
    (λ t.
    let same : h ≡ k = omega (arith, l, ltb-false h k t) in
    subst (λ (j : ℕ). source_due (get_or all j no_source) (sources_due all k) ≤ bound) same (f (sources_due all k)))

inside_walk : (x : Span) (n : ℕ) → within x n ≡ true → (start x ≤ n) × (n < start x + width x)
inside_walk Closed n h = clash' h
inside_walk (Open first last) n h =
    let both = and_both (leb first.0 n) (leb n last.0) h in
    let low = leb-true first.0 n both.0 in
    let high = leb-true n last.0 both.1 in
    (low, omega (arith, low, high))

not-later : (e : End) (w : Wait) → w.name.source.0 < 8 → Among w (waits_at e w.name) → next_due e ≤ w.due
unfolding next_due waits_at
not-later e w source waits =
    let s = source_at e w.name.source in
    let n = w.name.number.0 in
    let from = start s.span in
    let inside = due-inside (with_clock e w.due) w (record { source = source; waits = waits; due = omega arith }) in
    let walk = inside_walk s.span n inside in
    let at : from + (n - from) ≡ n = omega (arith, walk.0) in
    let each : (x : ℕ) → slot_due (record_at s (from + (n - from))).slot x ≤ w.due =
    λ x. subst (λ (j : ℕ). slot_due (record_at s j).slot x ≤ w.due) (sym at) (slot_least w.name (record_at s n).slot w waits x) in
    sources-least e.sources w.due w.name.source.0 8
    (λ x. names-least s x w.due (n - from) (width s.span) each (omega (arith, walk.0, walk.1))) source

pub due_is_least : DueIsLeast
unfolding waits_at
due_is_least e = record {
  least = not-later e;
  one = λ some.
      let short : next_due e < never = by_test (ltb (next_due e) never) (ltb-true (next_due e) never)
      (λ t. absurd (some (omega (arith, due_low e, ltb-false (next_due e) never t)))) in
      let w = from-due e (next_due e) short (omega arith) in
      let d = (choice_is_earliest (with_clock e (next_due e)) w.0 w.1).due in
      (w.0, d.source, d.waits, omega (arith, d.due, not-later e w.0 d.source d.waits));
}

pub fire_by_due : FireByDue
fire_by_due e clock room draws f =
    let short : clock < never = omega (arith, (passes e (Else Fire) clock room (length draws) f.unrefused).ticks) in
    record {
      before = λ l. before_due_event draws e clock room f.unrefused (member_is e.status f.member) short l;
      after = λ l.
          let w = from-due e clock short l in
          due_means_out e clock room draws f w.0 (choice_is_earliest (with_clock e clock) w.0 w.1).due;
    }

-- ---- of lent bytes
module _ (s : List ℕ) (clock : ℕ) (draws output : List ℕ) (f : FireLent s clock draws output) where
  abbrev E : End
  E = end_from s

  abbrev R : Result
  R = event_of E (Else Fire) clock (length output) draws

  unrefused : question_of E (Else Fire) clock (length output) (length draws) ≡ 0
  unfolding question_of
  unrefused = rw (
    le-leb 128 (length output) f.room,
    eq-eqb (length draws) 64 f.drawn,
    f.sound,
    lt-ltb clock 281474976710656 f.ticks,
    le-leb E.clock clock f.later,
  )

  by-due : ByDue E clock (length output) draws
  by-due = fire_by_due E clock (length output) draws (record { unrefused = unrefused; member = f.member })

  due-is : look due_in s ≡ next_due E
  unfolding look due_of
  due-is = rw (f.state, f.sound)

  number_is_lem : call_number (Else Fire) clock draws output s ≡ number_of (answer_of R.outcome)
  unfolding call_number
  number_is_lem = rw (le-leb 128 (length output) f.room, eq-eqb (length draws) 64 f.drawn, f.state)

  state-is : call_state (Else Fire) clock draws output s ≡ after (called_of R) s
  unfolding call_state
  state-is = rw (le-leb 128 (length output) f.room, eq-eqb (length draws) 64 f.drawn, f.state)

  output-is : call_out (Else Fire) clock draws output s ≡ buffer_of R.outcome output
  unfolding call_out
  output-is = rw (le-leb 128 (length output) f.room, eq-eqb (length draws) 64 f.drawn, f.state)

pub lent_fire_by_due : LentFireByDue
unfolding answer_of buffer_of
lent_fire_by_due s clock draws output f =
    let due = due-is s clock draws output f in
    let called = by-due s clock draws output f in
    record {
      before = λ l.
          let is = called.before (subst (λ (k : ℕ). clock < k) due l) in (
            number_is_lem s clock draws output f ∙ ap (λ (r : Result). number_of (answer_of r.outcome)) is,
            state-is s clock draws output f ∙ ap (λ (r : Result). after (called_of r) s) is,
            output-is s clock draws output f ∙ ap (λ (r : Result). buffer_of r.outcome output) is,
          );
      after = λ l.
          let out = called.after (subst (λ (k : ℕ). k ≤ clock) due l) in
          let short = out_short (end_from s) (Else Fire) clock (length output) draws out.0 tt out.1 in
          let least : min (length out.0) 65535 ≡ length out.0 = omega (arith, short) in
          (length out.0, short, number_is_lem s clock draws output f ∙ ap (λ (o : Outcome). number_of (answer_of o)) out.1 ∙ ap (of_kind OUT) least);
    }
