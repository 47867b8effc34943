-- What is read beside an event: the reader's verdict, the message of accepted bytes, whose meaning is that of the bytes, and the event that
-- the call counts as.
use mathlib.Core.Path.{◌≡◌, refl, ap, ◌∙◌}
use Prim.Native.Nat.{ℕ, zero, suc, ◌-◌, ◌≤◌}
use native.Mathlib.Omega.{arith}
use mathlib.Core.Bool.{true, false, ◌&&◌}
use mathlib.Core.List.{List, [], ◌∷◌}
use lib.ListN.{length}
use lib.Dec.{leb, eqb}
use Rattle.message.specs.declared.Message.{Message}
use Rattle.message.specs.Limit.{number_limit}
use Rattle.message.specs.Message.{Meaning, meaning_of, held_as, meaning_with, kind_byte, kind_of, most_number, meaning_from, counts_of, size_from}
use Rattle.message.specs.Question.{ask, first_no, kind_has_counts, in_range, hosts_fit, message_questions, meaning_questions}
use Rattle.message.specs.Question.{verdict_for, refusal_of, read_refusal, message_for, read_of}
use Rattle.message.proofs.QuestionLaws.{all-passed, most-below, range-rises, counts_fit, number_of_verdict}
use Rattle.message.proofs.LayoutLaws.{held_back}
use Rattle.end.specs.declared.Event.{Event}
use Rattle.end.specs.declared.Event.TheVariants.{Moves, Send, Arrival, Fire, Report, Fetch, Announce}
use Rattle.questions.specs.Read.{ReadAs}
use Rattle.taking.specs.Taking.{reading_for, is_probe, taken_as}

-- ---- the reading
read_number : (bytes : List ℕ) → refusal_of (read_of bytes).verdict ≡ read_refusal bytes
unfolding read_of read_refusal
read_number [] = refl
read_number (b ∷ s) = number_of_verdict (read_refusal (b ∷ s))

pub read_verdict : (what : Event) (bytes : List ℕ) → ReadAs what (reading_for what bytes).verdict bytes
read_verdict (Moves m) bytes = tt
read_verdict Send bytes = tt
read_verdict Arrival bytes = read_number bytes
read_verdict Fire bytes = tt
read_verdict Report bytes = tt
read_verdict (Fetch name) bytes = tt
read_verdict Announce bytes = tt

-- the message that is read from accepted bytes: it passed questions 9 and 10, and means what the bytes do
pub record Heard (s : List ℕ) (m : Message) : Type 0 where
  pub counts_in : kind_has_counts m.kind m.counts ≡ true
  pub ranges_in : in_range (number_limit - 1) (meaning_of m) ≡ true
  pub means : meaning_of m ≡ meaning_from s

held_as_lem : (s : List ℕ) → first_no (message_questions s) ≡ 0 → Heard s (held_as (meaning_from s))
unfolding meaning_with
held_as_lem s h =
    let M : Meaning = meaning_from s in
    let byte = kind_byte s in
    let rest = meaning_questions byte M in
    let a8 = all-passed (leb 12 (length s) && eqb (size_from s) (length s)) 8 (ask (kind_has_counts (kind_of byte) (counts_of M)) 9 ∷ rest) (omega arith) h in
    let a9 = all-passed (kind_has_counts (kind_of byte) (counts_of M)) 9 rest (omega arith) a8.1 in
    let a10 = all-passed (in_range (most_number byte) M) 10 (ask (hosts_fit M) 11 ∷ []) (omega arith) a9.1 in
    let most : most_number byte ≤ 65535 = omega (arith, most-below byte) in
    let back : meaning_of (held_as M) ≡ M = held_back M (counts_fit byte (kind_of byte) (counts_of M) a9.0).cues in
    record { counts_in = a9.0; ranges_in = ap (in_range 65535) back ∙ range-rises (most_number byte) 65535 most M a10.0; means = back }

pub heard : (b : ℕ) (s : List ℕ) (m : Message) → m ≡ (read_of (b ∷ s)).message → first_no (message_questions (b ∷ s)) ≡ 0 → Heard (b ∷ s) m
unfolding read_of read_refusal
heard b s m p h = rw (p ∙ ap (λ (k : ℕ). message_for k (meaning_from (b ∷ s))) h) (held_as_lem (b ∷ s) h)

-- ---- the event that a call counts as: a probe is a Report, and all else is itself
abbrev pub counts_as : Event → List ℕ → Event
counts_as what bytes = taken_as what (is_probe (reading_for what bytes).verdict)

not-probe : (k : ℕ) → is_probe (verdict_for k) ≡ false
not-probe zero = refl
not-probe (suc k) = refl

pub message_arrives : (b : ℕ) (s : List ℕ) → counts_as Arrival (b ∷ s) ≡ Arrival
unfolding read_of
message_arrives b s = ap (taken_as Arrival) (not-probe (read_refusal (b ∷ s)))
