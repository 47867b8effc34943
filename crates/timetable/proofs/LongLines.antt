-- The limit of 40 bytes loses no line that could be played: a longer one is malformed by its words too.
use mathlib.Core.Path.{◌≡◌, refl, sym, ap, ◌∙◌}
use mathlib.Core.Bool.{true, true≢false}
use mathlib.Core.List.{List, [], ◌∷◌}
use Prim.Native.Nat.{ℕ, ◌+◌, ◌≤◌, ◌<◌}
use native.Mathlib.Omega.{arith}
use lib.Dec.{ltb, eqb}
use lib.ListN.{length}
use borrow.Author.Tests.{ltb-true, eqb-true, eq-eqb}
use Rattle.std.specs.Prelude.{None, Option, Some}
use Rattle.numbers.proofs.Cases.{by_flag}
use Rattle.decimal.specs.Decimal.{unsigned_word}
use Rattle.decimal.proofs.DecimalLaws.{length_most}
use Rattle.decimal.proofs.ReadBack.{read_printed}
use Rattle.script.specs.Words.{onto, words, same}
use Rattle.script.proofs.WordsLaws.{other_length, words-some}
use Rattle.calendar.specs.declared.Date.{Date}
use Rattle.entries.specs.Line.{Malformed}
use Rattle.entries.specs.Line.{window, next, roll, clear, date_word, roll_of, next_of, window_of, clear_in, roll_in, next_in, window_in, line_in}
use Rattle.timetable.specs.Run.{LongLines}

-- ---- how long the words are together, each with the space or the end after it
total : List (List ℕ) → ℕ
total [] = 0
total (w ∷ l) = length w + 1 + total l

words_total : (s : List ℕ) → total (words s) ≡ length s + 1
unfolding words onto total
words_total [] = refl
words_total (b ∷ s) =
    let p = words-some s in
    let t : length p.0 + 1 + total p.1 ≡ length s + 1 = sym (ap total p.2) ∙ words_total s in
    by_flag (eqb b 32) (λ e. rw e (omega (arith, words_total s))) (λ f. rw (f, p.2) (omega arith))

-- ---- how long a word is, by what it means
same_length : (v w : List ℕ) → same v w ≡ true → length v ≡ length w
same_length v w h =
    by_flag (eqb (length v) (length w))
    (λ t. eqb-true _ _ t)
    (λ f. absurd (true≢false (sym h ∙ other_length v w (λ e. true≢false (sym (eq-eqb _ _ e) ∙ f)))))

date-length : (w : List ℕ) (d : Date) → date_word w ≡ Some d → length w ≡ 10
unfolding date_word
date-length w d h =
    by_flag (eqb (length w) 10)
    (λ t. eqb-true _ _ t)
    (λ f. let e : None ≡ Some d = rw f at h in absurd (let z : ◌≡◌ {A = ℕ} 0 1 = cc in omega arith))

minute_length : (w : List ℕ) (n : ℕ) → unsigned_word w ≡ Some n → ltb n 65536 ≡ true → length w ≤ 5
minute_length w n h t = omega (arith, ap length (read_printed w n h), length_most 4 n (omega (arith, ltb-true n 65536 t)))

-- ---- the words of a line, by their lengths
long-roll : (d : List ℕ) → 10 < length d → roll_of (date_word d) ≡ Malformed
long-roll d h = of (date_word d) refl
  where
    of : (x : Option Date) → date_word d ≡ x → roll_of x ≡ Malformed
    of (Some a) e = absurd (omega (arith, date-length d a e))
    of None e = refl

long-next : (d n : List ℕ) → 15 < length d + length n → next_of (date_word d) (unsigned_word n) ≡ Malformed
long-next d n h = of (date_word d) refl (unsigned_word n) refl
  where
    of : (x : Option Date) → date_word d ≡ x → (u : Option ℕ) → unsigned_word n ≡ u → next_of x u ≡ Malformed
    of (Some a) e (Some k) f = by_flag (ltb k 65536) (λ t. absurd (omega (arith, date-length d a e, minute_length n k f t))) (λ g. rw g)
    of (Some a) e None f = refl
    of None e u f = refl

long-window : (a b s e : List ℕ) → 30 < length a + length b + length s + length e
    → window_of (date_word a) (date_word b) (unsigned_word s) (unsigned_word e) ≡ Malformed
long-window a b s e h = of (date_word a) refl (date_word b) refl (unsigned_word s) refl (unsigned_word e) refl
  where
    of : (x : Option Date) → date_word a ≡ x → (y : Option Date) → date_word b ≡ y → (u : Option ℕ) → unsigned_word s ≡ u → (v : Option ℕ) → unsigned_word e ≡ v
        → window_of x y u v ≡ Malformed
    of (Some x) p (Some y) q (Some m) f (Some n) g =
        by_flag (ltb m 65536)
        (λ t.
        by_flag (ltb n 65536)
        (λ z. absurd (omega (arith, date-length a x p, date-length b y q, minute_length s m f t, minute_length e n g z)))
        (λ z. rw (t, z)))
        (λ t. rw t)
    of (Some x) p (Some y) q (Some m) f None g = refl
    of (Some x) p (Some y) q None f v g = refl
    of (Some x) p None q u f v g = refl
    of None p y q u f v g = refl

long-words : (l : List (List ℕ)) → 41 < total l → line_in l ≡ Malformed
unfolding total line_in clear_in roll_in next_in window_in
long-words [] h = refl
long-words (v ∷ []) h = by_flag (same v clear) (λ t. absurd (omega (arith, same_length v clear t))) (λ f. rw f)
long-words (v ∷ d ∷ []) h = by_flag (same v roll) (λ t. rw t (long-roll d (omega (arith, same_length v roll t)))) (λ f. rw f)
long-words (v ∷ d ∷ n ∷ []) h = by_flag (same v next) (λ t. rw t (long-next d n (omega (arith, same_length v next t)))) (λ f. rw f)
long-words (v ∷ a ∷ b ∷ s ∷ []) h = refl
long-words (v ∷ a ∷ b ∷ s ∷ e ∷ []) h =
    by_flag (same v window) (λ t. rw t (long-window a b s e (omega (arith, same_length v window t)))) (λ f. rw f)
long-words (v ∷ a ∷ b ∷ s ∷ e ∷ x ∷ l) h = refl

pub long-lines : LongLines
long-lines line h = long-words (words line) (omega (arith, words_total line))
