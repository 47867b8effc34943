-- Which line a call leaves, by the reader's verdict and by the answer.
use mathlib.Core.Path.{◌≡◌, refl, sym, ap, ◌∙◌}
use mathlib.Core.Bool.{Bool, true, false, cond}
use mathlib.Core.List.{List, [], ◌∷◌, append-nil}
use mathlib.Core.Option.{none, some}
use Prim.Native.Nat.{ℕ, zero, suc, min}
use native.Mathlib.Nat.{min-eq_left}
use native.Mathlib.Omega.{arith}
use lib.Dec.{eqb}
use borrow.Author.Tests.{ne_eqb}
use lib.ListN.{length, get_or, take, replicate}
use lib.Seq.{take_all}
use Rattle.numbers.proofs.Cases.{by_order}
use Rattle.numbers.specs.Splice.{splice}
use Rattle.numbers.proofs.SpliceLaws.{splice-start}
use Rattle.message.specs.declared.NameEntry.{NameEntry}
use Rattle.message.specs.declared.Verdict.{Verdict}
use Rattle.message.specs.declared.Verdict.TheVariants as verdict
use Rattle.message.specs.declared.Reading.{Reading}
use Rattle.message.specs.Section.{padded}
use Rattle.message.specs.Entry.{blank_name}
use Rattle.message.specs.Message.{Meaning, name_places, meaning_from}
use Rattle.message.specs.Question.{read_refusal, read_of, verdict_for, message_for}
use Rattle.end.specs.declared.Event.{Event}
use Rattle.end.specs.declared.Event.TheVariants as event
use Rattle.end.specs.Event.{Send, action_of}
use Rattle.end.specs.Book.{read_as}
use Rattle.end.proofs.Tools.{clash}
use Rattle.record.specs.Kept.{moved_line, sent_line, lines_for}
use Rattle.keeping.specs.Kept.{kept_of}
use Rattle.message.specs.declared.Host.{Host}
use Rattle.message.specs.declared.Name.{Name}
use Rattle.end.specs.declared.Answer.{Answer}
use Rattle.end.specs.declared.Answer.TheVariants as answer
use Rattle.end.specs.Answer.{Out, read_off}
use Rattle.record.specs.Line.{sent}

-- the first name of a message stands in the first place
first-place : (names : List NameEntry) → get_or (padded name_places blank_name names) 0 blank_name ≡ get_or names 0 blank_name
first-place [] = refl
first-place (x ∷ l) = refl

abbrev pub is_accepted : Verdict → Bool
is_accepted verdict.Accepted = true
is_accepted verdict.Probe = false
is_accepted (verdict.Refused k) = false

pub not-accepted : (v : Verdict) → (v ≡ verdict.Accepted → ⊥) → is_accepted v ≡ false
not-accepted verdict.Accepted h = absurd (h refl)
not-accepted verdict.Probe h = refl
not-accepted (verdict.Refused k) h = refl

-- by the number that the bytes are refused with, or none
numbered-by : (k : ℕ) (M : Meaning) (h : ℕ) (cue : List ℕ) → is_accepted (verdict_for k) ≡ true
    → sent h (get_or (message_for k M).names 0 blank_name).name.number.0 cue ∷ [] ≡ sent_line h (Send cue) (cond (eqb k 0) (some M) none)
numbered-by zero M h cue p = ap (λ (e : NameEntry). sent h e.name.number.0 cue ∷ []) (first-place M.names)
numbered-by (suc k) M h cue p = clash (sym p)

unread_by : (k : ℕ) (M : Meaning) (h : ℕ) (cue : List ℕ) → is_accepted (verdict_for k) ≡ false → [] ≡ sent_line h (Send cue) (cond (eqb k 0) (some M) none)
unread_by zero M h cue p = clash p
unread_by (suc k) M h cue p = rw (ne_eqb (suc k) 0 (λ e. absurd (omega arith)))

-- a Send that put out bytes which the reader accepts, and others
accepted-line : (s : List ℕ) (h : ℕ) (cue : List ℕ) → (read_of s).verdict ≡ verdict.Accepted
    → sent h (get_or (read_of s).message.names 0 blank_name).name.number.0 cue ∷ [] ≡ sent_line h (Send cue) (read_as s)
unfolding read_of read_as
accepted-line [] h cue p = clash (sym (ap is_accepted p))
accepted-line (b ∷ s) h cue p = numbered-by (read_refusal (b ∷ s)) (meaning_from (b ∷ s)) h cue (ap is_accepted p)

unread_line : (s : List ℕ) (h : ℕ) (cue : List ℕ) → is_accepted (read_of s).verdict ≡ false → [] ≡ sent_line h (Send cue) (read_as s)
unfolding read_of read_as
unread_line [] h cue p = by-none (eqb (read_refusal []) 0)
  where
    by-none : (t : Bool) → [] ≡ sent_line h (Send cue) (cond t none none)
    by-none true = refl
    by-none false = refl
unread_line (b ∷ s) h cue p = unread_by (read_refusal (b ∷ s)) (meaning_from (b ∷ s)) h cue p

-- the same of a reading of the bytes
pub sent-numbered : (r : Reading) (s : List ℕ) (h : ℕ) (cue : List ℕ) → r ≡ read_of s → r.verdict ≡ verdict.Accepted
    → sent h (get_or r.message.names 0 blank_name).name.number.0 cue ∷ [] ≡ sent_line h (Send cue) (read_as s)
sent-numbered r s h cue e p =
    ap (λ (x : Reading). sent h (get_or x.message.names 0 blank_name).name.number.0 cue ∷ []) e
    ∙ accepted-line s h cue (sym (ap (λ (x : Reading). x.verdict) e) ∙ p)

pub sent_unread : (r : Reading) (s : List ℕ) (h : ℕ) (cue : List ℕ) → r ≡ read_of s → is_accepted r.verdict ≡ false → [] ≡ sent_line h (Send cue) (read_as s)
sent_unread r s h cue e p = unread_line s h cue (sym (ap (λ (x : Reading). is_accepted x.verdict) e) ∙ p)

-- a move's line does not go by the cue
pub moved_anyway : (h : ℕ) (what : Event) (cue : List ℕ) → moved_line h (action_of what [] []) ≡ moved_line h (action_of what cue [])
moved_anyway h (event.Moves m) cue = refl
moved_anyway h event.Send cue = refl
moved_anyway h event.Arrival cue = refl
moved_anyway h event.Fire cue = refl
moved_anyway h event.Report cue = refl
moved_anyway h (event.Fetch name) cue = refl
moved_anyway h event.Announce cue = refl

-- the first bytes, of those that there are
pub first-bytes : (n k : ℕ) (s : List ℕ) → k ≡ min n (length s) → take k s ≡ take n s
first-bytes n k s e =
    by_order (length s) n
    (λ l. take_all k s (omega arith) ∙ sym (take_all n s (omega arith)))
    (λ g. ap (λ (i : ℕ). take i s) (e ∙ min-eq_left g))

-- 24 bytes written over 24 leave nothing else
pub all-over : (b : List ℕ) → length b ≡ 24 → splice 0 b (replicate 24 0) ≡ b
all-over b h = splice-start b (replicate 24 0) ∙ rw h (append-nil b)

-- of the events, only a Send leaves a line where bytes are put out
pub not-sent : (h : ℕ) (what : Event) (cue bytes : List ℕ) → (what ≡ event.Send → ⊥) → [] ≡ lines_for h (action_of what cue []) (Out bytes)
unfolding lines_for
not-sent h (event.Moves m) cue bytes n = refl
not-sent h event.Send cue bytes n = absurd (n refl)
not-sent h event.Arrival cue bytes n = refl
not-sent h event.Fire cue bytes n = refl
not-sent h event.Report cue bytes n = refl
not-sent h (event.Fetch name) cue bytes n = refl
not-sent h event.Announce cue bytes n = refl

-- of the answers, only Out, Got and Done leave one
pub not-kept : (h : Host) (what : Event) (cue : List ℕ) (a : Answer) (output : List ℕ) → ((n : ℕ) → a ≡ answer.Out n → ⊥) → ((x : Name) → a ≡ answer.Got x → ⊥)
    → (a ≡ answer.Done → ⊥) → [] ≡ kept_of h what cue a output
unfolding kept_of read_off lines_for
not-kept h what cue (answer.Refused k) output o g d = refl
not-kept h what cue (answer.Out n) output o g d = absurd (o n refl)
not-kept h what cue (answer.Got x) output o g d = absurd (g x refl)
not-kept h what cue answer.Done output o g d = absurd (d refl)
not-kept h what cue answer.Ignored output o g d = refl
not-kept h what cue answer.Nothing output o g d = refl
not-kept h what cue (answer.Clash x) output o g d = refl
not-kept h what cue (answer.Late x) output o g d = refl
not-kept h what cue answer.Exhausted output o g d = refl
