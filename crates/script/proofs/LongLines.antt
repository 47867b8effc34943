-- The limit of 34 bytes loses no line that could be played: a longer one that is right word by word hears a message whose number
-- is 64 or more, and there are at most 64 messages.
use mathlib.Core.Path.{◌≡◌, refl, sym, ap, ◌∙◌}
use mathlib.Core.Bool.{true, cond}
use mathlib.Core.Logic.{◌⊎◌, inl, inr, ⊎_elim}
use mathlib.Core.List.{List, [], ◌∷◌}
use Prim.Native.Nat.{ℕ, suc, ◌+◌, ◌≤◌, ◌<◌}
use native.Mathlib.Omega.{arith}
use lib.Dec.{ltb, eqb}
use lib.ListN.{length}
use borrow.Author.Tests.{ltb-true}
use Rattle.std.specs.Prelude.{ℤ, None, Option, Some}
use Rattle.numbers.proofs.Cases.{by_flag, by_order}
use Rattle.message.specs.Entry.{as_host}
use Rattle.decimal.specs.Decimal.{unsigned_word, signed_word}
use Rattle.decimal.proofs.DecimalLaws.{both, length-one, length_most, length_u64, length-signed}
use Rattle.decimal.proofs.ReadBack.{is_read, read_printed, signed-printed, signed-fits}
use Rattle.script.specs.declared.Verb.{Verb}
use Rattle.script.specs.declared.Verb.TheVariants.{Hear}
use Rattle.script.specs.declared.Call.{Call}
use Rattle.script.specs.Line.{Play, Malformed}
use Rattle.script.specs.Words.{onto, words, same}
use Rattle.script.specs.Line.{join, joined, leave, left, crash, send, hear, fire, report, later_verb, plain_verb, send_of, hear_of, verb_with, call_of, line_in}
use Rattle.script.proofs.WordsLaws.{words-some}

-- ---- how long the words are together

-- each word with the space or the end after it
total : List (List ℕ) → ℕ
total [] = 0
total (w ∷ l) = length w + 1 + total l

words_total : (s : List ℕ) → total (words s) ≡ length s + 1
unfolding words onto total
words_total [] = refl
words_total (b ∷ s) =
    let k = words_total s in
    let p = words-some s in
    let t : length p.0 + 1 + total p.1 ≡ length s + 1 = sym (ap total p.2) ∙ k in
    by_flag (eqb b 32) (λ e. rw e (omega arith)) (λ f. rw (f, p.2) (omega arith))

-- ---- how long a word is, by what it means

unsigned-length : (s : List ℕ) (n : ℕ) → unsigned_word s ≡ Some n → length s ≤ 20
unsigned-length s n h = omega (arith, ap length (read_printed s n h), length_u64 n (is_read s n h).2)

end-length : (s : List ℕ) (n : ℕ) → unsigned_word s ≡ Some n → n < 2 → length s ≤ 1
end-length s n h l = omega (arith, ap length (read_printed s n h), length-one n (omega arith))

-- a message number below 64 has at most two digits
known-length : (s : List ℕ) (n : ℕ) → unsigned_word s ≡ Some n → n < 64 → length s ≤ 2
known-length s n h l = omega (arith, ap length (read_printed s n h), length_most 1 n (omega arith))

same_length : (v w : List ℕ) → same v w ≡ true → length v ≡ length w
unfolding same
same_length [] [] h = refl
same_length [] (b ∷ w) h = absurd (let z : ◌≡◌ {A = ℕ} 0 1 = cc in omega arith)
same_length (a ∷ v) [] h = absurd (let z : ◌≡◌ {A = ℕ} 0 1 = cc in omega arith)
same_length (a ∷ v) (b ∷ w) h = ap suc (same_length v w (both (eqb a b) (same v w) h).1)

-- one word tried, and then the others
tried : (v w : List ℕ) (x y r : Option Verb) → length w ≤ 6 → (r ≡ y → length v ≤ 6) → cond (same v w) x r ≡ y → length v ≤ 6
tried v w x y r k f h =
    by_flag (same v w) (λ t. omega (arith, same_length v w t)) (λ e. f (rw e at h))

plain-length : (v : List ℕ) (x : Verb) → plain_verb v ≡ Some x → length v ≤ 6
unfolding plain_verb later_verb
plain-length v x h =
    tried v join _ (Some x) _ (omega arith)
    (tried v joined _ (Some x) _ (omega arith)
    (tried v leave _ (Some x) _ (omega arith)
    (tried v left _ (Some x) _ (omega arith)
    (tried v crash _ (Some x) _ (omega arith)
    (tried v fire _ (Some x) _ (omega arith)
    (tried v report _ (Some x) _ (omega arith) (λ e. absurd (let z : ◌≡◌ {A = ℕ} 0 1 = cc in omega arith))))))))
    h

-- a verb with a fourth word: it sends a focus, or hears a message
send-length : (x : List ℕ) (y : Verb) → send_of (signed_word x) ≡ Some y → length x ≤ 6
send-length x y h = of (signed_word x) refl h
  where
    of : (f : Option ℤ) → signed_word x ≡ f → send_of f ≡ Some y → length x ≤ 6
    of (Some z) e h = omega (arith, ap length (signed-printed x z e), length-signed z (signed-fits x z e))
    of None e h = absurd (let w : ◌≡◌ {A = ℕ} 0 1 = cc in omega arith)

heard : (u : Option ℕ) (y : Verb) → hear_of u ≡ Some y → (n : ℕ) × (u ≡ Some n) × (y ≡ Hear n)
heard (Some n) y h = (n, refl, (cc))
heard None y h = absurd (let w : ◌≡◌ {A = ℕ} 0 1 = cc in omega arith)

with_length : (v x : List ℕ) (y : Verb) → verb_with v x ≡ Some y
    → (length v ≡ 4) × ((length x ≤ 6) ⊎ ((n : ℕ) × (unsigned_word x ≡ Some n) × (y ≡ Hear n)))
unfolding verb_with
with_length v x y h =
    by_flag (same v send)
    (λ t. (same_length v send t, inl (send-length x y (rw t at h))))
    (λ f.
    by_flag (same v hear)
    (λ t. (same_length v hear t, inr (heard (unsigned_word x) y (rw (f, t) at h))))
    (λ g. let e : None ≡ Some y = rw (f, g) at h in absurd (let w : ◌≡◌ {A = ℕ} 0 1 = cc in omega arith)))

-- ---- the parts of a call

Parts : Option ℕ → Option Verb → Option ℕ → Call → Type 0
Parts e v t k = (n : ℕ) × (m : ℕ) × (e ≡ Some n) × (n < 2) × (v ≡ Some k.verb) × (t ≡ Some m)

parts : (e : Option ℕ) (v : Option Verb) (t : Option ℕ) (k : Call) → call_of e v t ≡ Play k → Parts e v t k
unfolding Parts
parts (Some n) (Some v) (Some m) k h =
    by_flag (ltb n 2)
    (λ t. let e : Play (record { end = as_host n; verb = v; clock = m }) ≡ Play k = rw t at h in (n, m, refl, ltb-true n 2 t, (cc), refl))
    (λ f. let e : Malformed ≡ Play k = rw f at h in absurd (let w : ◌≡◌ {A = ℕ} 0 1 = cc in omega arith))
parts (Some n) (Some v) None k h = absurd (let w : ◌≡◌ {A = ℕ} 0 1 = cc in omega arith)
parts (Some n) None t k h = absurd (let w : ◌≡◌ {A = ℕ} 0 1 = cc in omega arith)
parts None v t k h = absurd (let w : ◌≡◌ {A = ℕ} 0 1 = cc in omega arith)

-- it hears a message that there can't be
Unknown : Call → Type 0
Unknown k = (n : ℕ) × (k.verb ≡ Hear n) × (64 ≤ n)

long-words : (l : List (List ℕ)) (k : Call) → 35 < total l → line_in l ≡ Play k → Unknown k
unfolding line_in total Parts Unknown
long-words [] k h e = absurd (omega arith)
long-words (a ∷ []) k h e = absurd (let w : ◌≡◌ {A = ℕ} 0 1 = cc in omega arith)
long-words (a ∷ b ∷ []) k h e = absurd (let w : ◌≡◌ {A = ℕ} 0 1 = cc in omega arith)
long-words (a ∷ v ∷ t ∷ []) k h e =
    let p = parts (unsigned_word a) (plain_verb v) (unsigned_word t) k e in
    absurd (omega (arith, end-length a p.0 p.2 p.3, plain-length v k.verb p.4, unsigned-length t p.1 p.5))
long-words (a ∷ v ∷ t ∷ x ∷ []) k h e =
    let p = parts (unsigned_word a) (verb_with v x) (unsigned_word t) k e in
    let q = with_length v x k.verb p.4 in
    let la = end-length a p.0 p.2 p.3 in
    let lt = unsigned-length t p.1 p.5 in
    ⊎_elim
    (λ s. absurd (omega (arith, q.0)))
    (λ r. (r.0, r.2, by_order r.0 64 (λ l. absurd (omega (arith, q.0, known-length x r.0 r.1 l))) (λ g. g)))
    q.1
long-words (a ∷ v ∷ t ∷ x ∷ y ∷ l) k h e = absurd (let w : ◌≡◌ {A = ℕ} 0 1 = cc in omega arith)

pub long-lines : (s : List ℕ) (k : Call) → 34 < length s → line_in (words s) ≡ Play k → (n : ℕ) × (k.verb ≡ Hear n) × (64 ≤ n)
unfolding Unknown
long-lines s k h e = long-words (words s) k (omega (arith, words_total s)) e
