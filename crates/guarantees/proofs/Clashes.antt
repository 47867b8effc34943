-- A message that names a held cue with other bytes is answered Clash, no other call is, and nothing changes.
use mathlib.Core.Path.{◌≡◌, refl, sym, ap, ◌∙◌}
use mathlib.Core.Bool.{true, false, not}
use mathlib.Core.List.{List, [], ◌∷◌}
use Prim.Native.Nat.{ℕ}
use native.Mathlib.Omega.{arith}
use lib.ListN.{length}
use lib.Seq.{set-get_or}
use lib.Dec.{eqb, leb}
use borrow.Author.Tests.{eqb-true, eq-eqb, leb-true, ltb-true}
use Rattle.message.specs.Message.{DATA, RQST, REPL, Meaning, meaning_with, meaning_from}
use Rattle.message.specs.Question.{same_host}
use Rattle.message.proofs.QuestionLaws.{and_both}
use Rattle.end.specs.Parts.{Span, Closed, Open}
use Rattle.end.specs.declared.Source.{Source}
use Rattle.end.specs.declared.Says.{Says}
use Rattle.end.specs.declared.Says.TheVariants.{Data, Repl}
use Rattle.end.specs.declared.Reason.TheVariants.{Crashed, WrongStatus, OwnMessage, NotOpen, BelowFirst, OwnAboveLast, AlreadyHeld, ReplyWaiting, ReplyQuiet, RequestQuiet, NoFetch}
use Rattle.end.specs.declared.Decision.{Decision}
use Rattle.end.specs.declared.Decision.TheVariants.{Ignores, Opens, Takes, Repairs, Hushes, Replies, Learns, BacksOff, Clashes, Expresses}
use Rattle.end.specs.declared.End.{End}
use Rattle.end.specs.State.{no_source, source_at, moment_of, with_sources, with_clock}
use Rattle.end.specs.Records.{within, is_closed, is_below, record_at, is_held}
use Rattle.end.specs.Answer.{Clash, Step, give, Did, Result, buffer_of, done}
use Rattle.end.specs.Decide.{decide, apply, effect_of, step_by, step_at}
use Rattle.end.specs.Arrival.{message_name, word_of, message_step, arrival_of}
use Rattle.end.specs.Event.{if_member, Arrival, act_of, step_of, question_of, event_of}
use Rattle.end.specs.Clashes.{named_record, Clashing}
use Rattle.end.proofs.Clashes.{step-clashes}
use Rattle.end.proofs.Grounds.{is_data, is_request, Grounds, grounds}
use Rattle.end.proofs.Tools.{by_cond, clash, clash', or_alone}
use Rattle.guarantees.specs.Clashes.{OtherBytesClash, WasClash, ClashMeans}
use Rattle.guarantees.proofs.Names.{held-inside, inside_not_above}
use Rattle.guarantees.proofs.Calls.{member_not_crashed}

-- ---- what is held is neither closed off nor below first
inside_open : (x : Span) (n : ℕ) → within x n ≡ true → is_closed x ≡ true → ⊥
inside_open Closed n w h = clash' w
inside_open (Open first last) n w h = clash' h

inside_not_below : (x : Span) (n : ℕ) → within x n ≡ true → is_below x n ≡ true → ⊥
inside_not_below Closed n w h = clash' w
inside_not_below (Open first last) n w h =
    omega (arith, leb-true first.0 n (and_both (leb first.0 n) (leb n last.0) w).0, ltb-true n first.0 h)

-- ---- every other decision has grounds that do not hold here
module _ (us : List ℕ) (m : Meaning) (e : End) (c : Clashing e m) where
  abbrev Answers : Step → Type 0
  Answers step = step ≡ give (Clash (message_name m)) e

  abbrev span : Span
  span = (source_at e (message_name m).source).span

  abbrev n : ℕ
  n = (message_name m).number.0

  inside : within span n ≡ true
  inside = held-inside (source_at e (message_name m).source) n c.held

  decided : (says : Says) → is_request says ≡ false → (d : Decision)
      → Grounds (moment_of e) (word_of says m e) (named_record e m) span d
      → Answers (step_by (moment_of e) us (word_of says m e) e d)
  unfolding Grounds apply effect_of
  decided says k (Ignores Crashed) g = clash (sym g)
  decided says k (Ignores WrongStatus) g = clash (sym g)
  decided says k (Ignores OwnMessage) g = clash (sym g)
  decided says k (Ignores NotOpen) g = absurd (inside_open span n inside (and_both (not (is_data says)) _ g).1)
  decided says k (Ignores BelowFirst) g = absurd (inside_not_below span n inside g)
  decided says k (Ignores OwnAboveLast) g =
      absurd (inside_not_above span n inside (and_both (same_host (message_name m).source e.host) _ (and_both (not (is_data says)) _ g).1).1)
  decided says k (Ignores AlreadyHeld) g = clash (sym (and_both (is_held (named_record e m).slot) _ (and_both (is_data says) _ g).1).1 ∙ c.differs)
  decided says k (Ignores ReplyWaiting) g = clash (sym (and_both (is_request says) _ g).0 ∙ k)
  decided says k (Ignores ReplyQuiet) g = clash (sym (and_both (is_request says) _ g).0 ∙ k)
  decided says k (Ignores RequestQuiet) g = clash (sym (and_both (is_request says) _ g).0 ∙ k)
  decided says k (Ignores NoFetch) g = clash (sym g)
  decided says k Opens g = absurd (inside_open span n inside (ap is_closed g.1))
  decided says k Takes g = clash (sym c.held ∙ g.1.lacks)
  decided says k Repairs g = clash (sym c.held ∙ g.1.missing.lacks)
  decided says k Hushes g = clash (sym g.2 ∙ c.differs)
  decided says k Replies g = clash (sym g.0 ∙ k)
  decided says k Learns g = clash (sym g.0 ∙ k)
  decided says k (BacksOff i) g = clash (sym g.0 ∙ k)
  decided says k Expresses g = clash (sym (ap is_request g.0) ∙ k)
  decided says k Clashes g = ap (λ (l : List Source). give (Clash (message_name m)) (with_sources e l)) (set-get_or e.sources (message_name m).source.0 no_source)

  word_answers : (says : Says) → is_request says ≡ false → Answers (step_at (moment_of e) us (word_of says m e) e)
  unfolding step_at
  word_answers says k =
      let s = source_at e (message_name m).source in
      decided says k (decide (moment_of e) (word_of says m e) s) (grounds (moment_of e) (word_of says m e) (record_at s (message_name m).number.0) s.span)

  -- a message of a kind that carries a cue is no RQST and no SESS
  arrival-answers : Answers (if_member e (arrival_of us m e))
  unfolding arrival_of message_step
  arrival-answers = rw (c.member, c.another)
      (by_cond Answers (eqb m.kind DATA) (λ _. word_answers Data refl)
      (λ d.
      let repair : eqb m.kind REPL ≡ true = or_alone (eqb m.kind DATA) (eqb m.kind REPL) c.carries d in
      let is : m.kind ≡ REPL = eqb-true m.kind REPL repair in
      by_cond Answers (eqb m.kind RQST) (λ r. absurd (let q = eqb-true m.kind RQST r in omega arith))
      (λ _. by_cond Answers (eqb m.kind REPL) (λ _. word_answers Repl refl) (λ n. clash (sym repair ∙ n)))))

-- the end with its clock set clashes too, and the other way round
clash-clock : (e : End) (t : ℕ) (m : Meaning) → Clashing e m → Clashing (with_clock e t) m
clash-clock e t m c = record { member = c.member; another = c.another; carries = c.carries; held = c.held; differs = c.differs }

clash_unclock : (e : End) (t : ℕ) (m : Meaning) → Clashing (with_clock e t) m → Clashing e m
clash_unclock e t m c = record { member = c.member; another = c.another; carries = c.carries; held = c.held; differs = c.differs }

pub other_bytes_clash : OtherBytesClash
unfolding event_of step_of act_of meaning_with
other_bytes_clash e [] clock room draws asked c = clash (sym c.carries)
other_bytes_clash e (b ∷ s) clock room draws asked c =
    let bytes : List ℕ = b ∷ s in
    let m = meaning_from bytes in
    rw (eq-eqb (question_of e (Arrival bytes) clock room (length draws)) 0 asked, member_not_crashed e.status c.member)
    (ap done (arrival-answers draws m (with_clock e clock) (clash-clock e clock m c)))

pub clash-means : ClashMeans
unfolding event_of buffer_of
clash-means e a clock room draws name =
    by_cond (λ (r : Result). r.outcome ≡ Did (Clash name) → WasClash e a clock name r) (eqb (question_of e a clock room (length draws)) 0)
    (λ t p.
    let answers : (step_of clock draws a e).effect ≡ Clash name = cc in
    let k = step-clashes e clock draws name a answers in
    record {
      bytes = k.bytes;
      arrival = k.arrival;
      clashing = clash_unclock e clock (meaning_from k.bytes) k.clashing;
      named = k.named;
      left = k.stays;
      output = λ out. rw answers;
    })
    (λ t p. let z : ◌≡◌ {A = ℕ} 0 1 = cc in absurd (omega arith))
