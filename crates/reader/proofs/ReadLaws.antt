-- The reader's questions, one at a time: which answer each first no gives.
use mathlib.Core.Path.{◌≡◌, refl, sym, ap, ◌∙◌}
use Prim.Native.Nat.{ℕ, zero, suc, ◌<◌}
use native.Mathlib.Omega.{arith}
use mathlib.Core.Bool.{Bool, true, false, cond, ◌&&◌}
use mathlib.Core.List.{List, [], ◌∷◌}
use lib.ListN.{length, take}
use lib.Dec.{leb, eqb}
use borrow.Author.Tests.{eqb-true}
use Rattle.message.specs.Message.{Meaning, kind_of, kind_byte, meaning_with, meaning_from, meaning_of, counts_of, held_as, size_with, size_from}
use Rattle.message.specs.declared.Counts.{Counts}
use Rattle.message.specs.Question.{ask, first_no, outcome, verdict_for, message_questions, meaning_questions, kind_has_counts, blank_message, message_for, read_refusal, read_of, refusal_of}
use Rattle.message.specs.declared.Message.{Message}
use Rattle.message.specs.declared.Refusal.{Refusal}
use Rattle.std.specs.Prelude.{Result, Ok, Err}
use Rattle.message.specs.declared.Reading.{Reading}
use Rattle.message.specs.declared.Verdict.TheVariants.{Accepted, Probe, Refused}
use Rattle.message.proofs.LayoutLaws.{held_back}
use Rattle.message.proofs.QuestionLaws.{and_both, all-passed, counts_fit, none-refused, refused-as}
use Rattle.reader.specs.Counting.{WidthIn, CountsIn, Loadable, message_or}

-- no bytes are a probe
pub read_none : (s : List ℕ) (r : Reading) → length s ≡ 0 → r ≡ record { verdict = Probe; message = blank_message }
    → (r ≡ read_of s) × (refusal_of r.verdict ≡ read_refusal s)
unfolding read_of read_refusal
read_none [] r h e = (e, ap (λ (x : Reading). refusal_of x.verdict) e)
read_none (b ∷ s) r h e = absurd (omega arith)

-- any others are asked the questions of a message
asked-some : (s : List ℕ) → 0 < length s → read_refusal s ≡ first_no (message_questions s)
unfolding read_refusal
asked-some [] h = absurd (omega arith)
asked-some (b ∷ s) h = refl

read_some : (s : List ℕ) → 0 < length s
    → read_of s ≡ record { verdict = verdict_for (read_refusal s); message = message_for (read_refusal s) (meaning_from s) }
unfolding read_of
read_some [] h = absurd (omega arith)
read_some (b ∷ s) h = refl

-- the first of two noes
first_two : (a b : Bool) (rest k : ℕ) → 0 < k → k ≡ cond a (cond b 0 9) 8 → cond a (cond b rest 9) 8 ≡ k
first_two true true rest k p e = absurd (omega arith)
first_two true false rest k p e = sym e
first_two false b rest k p e = sym e

module _ (s : List ℕ) where
  -- questions 8 and 9
  abbrev pub Whole : Bool
  Whole = leb 12 (length s) && eqb (size_from s) (length s)

  abbrev pub HasCounts : Bool
  HasCounts = kind_has_counts (kind_of (kind_byte s)) (counts_of (meaning_from s))

  -- the code's tests are the definitions
  module _ {w : ℕ} {c : Counts} (v : WidthIn s w) (k : CountsIn w s c) where
    counted : c ≡ counts_of (meaning_from s)
    counted = k.counts ∙ ap (λ (x : ℕ). counts_of (meaning_with x s)) v.width

    sized : size_with w c ≡ size_from s
    sized = λ i. size_with (v.width i) (counted i)

    pub whole_is : {size : ℕ} → size ≡ size_with w c → (leb 12 (length s) && eqb size (length s)) ≡ Whole
    whole_is e = ap (λ (x : ℕ). leb 12 (length s) && eqb x (length s)) (e ∙ sized)

    pub counts_are : {kind : ℕ} → kind ≡ kind_of (kind_byte s) → kind_has_counts kind c ≡ HasCounts
    counts_are e = λ i. kind_has_counts (e i) (counted i)

  -- questions 8 and 9 were answered yes
  pub record Passed : Type 0 where
    pub whole : Whole ≡ true
    pub counts : HasCounts ≡ true

  pub passed : first_no (take 2 (message_questions s)) ≡ 0 → Passed
  passed h =
      let a = all-passed Whole 8 (ask HasCounts 9 ∷ []) (omega arith) h in
      record { whole = a.0; counts = (all-passed HasCounts 9 [] (omega arith) a.1).0 }

  -- so the message can be loaded
  pub loadable : {w : ℕ} {c : Counts} → WidthIn s w → CountsIn w s c → Passed → Loadable w s c
  loadable v k p =
      let small = counts_fit (kind_byte s) (kind_of (kind_byte s)) (counts_of (meaning_from s)) p.counts in
      let size = eqb-true (size_from s) (length s) (and_both (leb 12 (length s)) _ p.whole).1 in
      record { counts = k.counts; size = sized v k ∙ size; small = rw (v.width, counted v k) small; widest = v.widest }

  pub refused-first : 0 < length s → (k : ℕ) → 0 < k → k ≡ first_no (take 2 (message_questions s)) → read_refusal s ≡ k
  refused-first l k p e = asked-some s l ∙ first_two Whole HasCounts (first_no (meaning_questions (kind_byte s) (meaning_from s))) k p e

  -- after 8 and 9 the message that was loaded decides
  pub refused-by : 0 < length s → Passed → (m : Message) → m ≡ held_as (meaning_from s)
      → read_refusal s ≡ first_no (meaning_questions (kind_byte s) (meaning_of m))
  refused-by l p m e =
      let small = counts_fit (kind_byte s) (kind_of (kind_byte s)) (counts_of (meaning_from s)) p.counts in
      let same : meaning_of m ≡ meaning_from s = ap meaning_of e ∙ held_back (meaning_from s) small.cues in
      rw (asked-some s l, p.whole, p.counts) (ap (λ (M : Meaning). first_no (meaning_questions (kind_byte s) M)) (sym same))

  -- a refusal, and an acceptance
  pub no : 0 < length s → (k : ℕ) (r : Reading) → 0 < k → read_refusal s ≡ k → r ≡ record { verdict = Refused k; message = blank_message }
      → (r ≡ read_of s) × (refusal_of r.verdict ≡ read_refusal s)
  no l zero r p e q = absurd (omega arith)
  no l (suc k) r p e q = (q ∙ rw (read_some s l, e), ap (λ (x : Reading). refusal_of x.verdict) q ∙ sym e)

  pub yes_read : 0 < length s → (m : Message) → read_refusal s ≡ 0 → m ≡ held_as (meaning_from s)
      → (◌≡◌ {A = Reading} (record { verdict = Accepted; message = m }) (read_of s)) × (0 ≡ read_refusal s)
  yes_read l m e q = (rw (read_some s l, e, q), sym e)

-- ---- what a message is read as, or its first no
or_no : {e : Refusal} (k : ℕ) (M : Meaning) → 0 < e.0 → k ≡ e.0 → ◌≡◌ {A = Result Message Refusal} (Err e) (message_or k M)
or_no {e} zero M p h = absurd (omega arith)
or_no {e} (suc k) M p h = let f : ℕ → Result Message Refusal = λ n. Err (record { 0 = n }) in ap f (sym h)

or_yes : {m : Message} (k : ℕ) (M : Meaning) → k ≡ 0 → m ≡ held_as M → ◌≡◌ {A = Result Message Refusal} (Ok m) (message_or k M)
or_yes zero M z h = let f : Message → Result Message Refusal = λ x. Ok x in ap f h
or_yes (suc k) M z h = absurd (omega arith)

abbrev no_in : Result Message Refusal → ℕ
no_in (Ok m) = 0
no_in (Err e) = e.0

abbrev message_in : Result Message Refusal → Message
message_in (Ok m) = m
message_in (Err e) = blank_message

was_no : {e : Refusal} (k : ℕ) (M : Meaning) → ◌≡◌ {A = Result Message Refusal} (Err e) (message_or k M) → (0 < e.0) × (k ≡ e.0)
was_no {e} zero M h = absurd (let z : ◌≡◌ {A = Result Message Refusal} (Err e) (Ok (held_as M)) = h in cc)
was_no {e} (suc k) M h =
    let n : suc k ≡ e.0 = sym (ap no_in h) in
    (omega arith, n)

was-yes : {m : Message} (k : ℕ) (M : Meaning) → ◌≡◌ {A = Result Message Refusal} (Ok m) (message_or k M) → (k ≡ 0) × (m ≡ held_as M)
was-yes {m} zero M h = (refl, ap message_in h)
was-yes {m} (suc k) M h = absurd (let z : 0 ≡ suc k = ap no_in h in omega arith)

module _ (s : List ℕ) (long : 0 < length s) where
  -- 8 or 9 was answered no
  pub counts_no : {e : Refusal} → ◌≡◌ {A = Result (Unit {0}) Refusal} (Err e) (outcome (first_no (take 2 (message_questions s))))
      → ◌≡◌ {A = Result Message Refusal} (Err e) (message_or (read_refusal s) (meaning_from s))
  counts_no {e} h =
      let q = refused-as _ h in
      or_no _ _ q.0 (refused-first s long e.0 q.0 (sym q.1))

  -- after them the message that was loaded decides
  module _ (both : Passed s) (m : Message) (held : m ≡ held_as (meaning_from s)) where
    pub meaning_no : {e : Refusal} → ◌≡◌ {A = Result (Unit {0}) Refusal} (Err e) (outcome (first_no (meaning_questions (kind_byte s) (meaning_of m))))
        → ◌≡◌ {A = Result Message Refusal} (Err e) (message_or (read_refusal s) (meaning_from s))
    meaning_no {e} h =
        let q = refused-as _ h in
        or_no _ _ q.0 (refused-by s long both m held ∙ q.1)

    pub meaning-yes : {u : Unit {0}} → ◌≡◌ {A = Result (Unit {0}) Refusal} (Ok u) (outcome (first_no (meaning_questions (kind_byte s) (meaning_of m))))
        → ◌≡◌ {A = Result Message Refusal} (Ok m) (message_or (read_refusal s) (meaning_from s))
    meaning-yes h = or_yes _ _ (refused-by s long both m held ∙ none-refused _ h) held

  -- what the reader then answers
  pub answer_no : {e : Refusal} {b : Message} → b ≡ blank_message → ◌≡◌ {A = Result Message Refusal} (Err e) (message_or (read_refusal s) (meaning_from s))
      → ◌≡◌ {A = Reading} (record { verdict = Refused e.0; message = b }) (read_of s)
  answer_no {e} z h =
      let q = was_no _ _ h in
      (no s long e.0 _ q.0 q.1 (ap (λ (x : Message). record { verdict = Refused e.0; message = x }) z)).0

  pub answer-yes : {m : Message} → ◌≡◌ {A = Result Message Refusal} (Ok m) (message_or (read_refusal s) (meaning_from s))
      → ◌≡◌ {A = Reading} (record { verdict = Accepted; message = m }) (read_of s)
  answer-yes {m} h =
      let q = was-yes _ _ h in
      (yes_read s long m q.0 q.1).0
