-- A line of more than 62 bytes is malformed: no line that is right is longer than `got 7 0 65535` and a cue.
use mathlib.Core.Path.{◌≡◌, refl, sym, ap, ◌∙◌}
use mathlib.Core.Bool.{true, cond, ◌&&◌}
use mathlib.Core.List.{List, [], ◌∷◌}
use Prim.Native.Nat.{ℕ, suc, ◌+◌, ◌≤◌, ◌<◌}
use native.Mathlib.Omega.{arith}
use lib.Dec.{eqb}
use lib.ListN.{length}
use borrow.Author.Tests.{eqb-true, ltb-true}
use Rattle.std.specs.Prelude.{None, Option, Some}
use Rattle.numbers.proofs.Cases.{by_flag}
use Rattle.end.specs.declared.Move.{Move}
use Rattle.decimal.specs.Decimal.{unsigned_word}
use Rattle.decimal.proofs.DecimalLaws.{both, length-one, length_most}
use Rattle.decimal.proofs.ReadBack.{read_printed}
use Rattle.script.specs.Words.{onto, words, same}
use Rattle.script.specs.Line.{join, joined, leave, left, crash, send}
use Rattle.script.proofs.WordsLaws.{words-some}
use Rattle.record.specs.Line.{got, move_word, cue_word, malformed, host_is, number_is, moved_of, sent_of, got_of, moved_in, sent_in, got_in, line_in, line_of}

-- ---- how long the words are together: each with the space or the end after it
total : List (List ℕ) → ℕ
total [] = 0
total (w ∷ l) = length w + 1 + total l

words_total : (s : List ℕ) → total (words s) ≡ length s + 1
unfolding words onto total
words_total [] = refl
words_total (b ∷ s) =
    let k = words_total s in
    let p = words-some s in
    let t : length p.0 + 1 + total p.1 ≡ length s + 1 = sym (ap total p.2) ∙ k in
    by_flag (eqb b 32) (λ e. rw e (omega arith)) (λ f. rw (f, p.2) (omega arith))

-- ---- how long a word is, by what it means
same_length : (v w : List ℕ) → same v w ≡ true → length v ≡ length w
unfolding same
same_length [] [] h = refl
same_length [] (b ∷ w) h = absurd (let z : ◌≡◌ {A = ℕ} 0 1 = cc in omega arith)
same_length (a ∷ v) [] h = absurd (let z : ◌≡◌ {A = ℕ} 0 1 = cc in omega arith)
same_length (a ∷ v) (b ∷ w) h = ap suc (same_length v w (both (eqb a b) (same v w) h).1)

-- one word tried, and then the others
tried : (v w : List ℕ) (x y r : Option Move) → length w ≤ 6 → (r ≡ y → length v ≤ 6) → cond (same v w) x r ≡ y → length v ≤ 6
tried v w x y r k f h = by_flag (same v w) (λ t. omega (arith, same_length v w t)) (λ e. f (rw e at h))

move-length : (v : List ℕ) (m : Move) → move_word v ≡ Some m → length v ≤ 6
unfolding move_word
move-length v m h =
    tried v join _ (Some m) _ (omega arith)
    (tried v joined _ (Some m) _ (omega arith)
    (tried v leave _ (Some m) _ (omega arith)
    (tried v left _ (Some m) _ (omega arith)
    (tried v crash _ (Some m) _ (omega arith) (λ e. absurd (let z : ◌≡◌ {A = ℕ} 0 1 = cc in omega arith))))))
    h

host-length : (s : List ℕ) (h : ℕ) → unsigned_word s ≡ Some h → host_is h ≡ true → length s ≡ 1
host-length s h e t = sym (ap length (read_printed s h e)) ∙ length-one h (omega (arith, ltb-true h 8 t))

number-length : (s : List ℕ) (n : ℕ) → unsigned_word s ≡ Some n → number_is n ≡ true → length s ≤ 5
number-length s n e t = omega (arith, ap length (read_printed s n e), length_most 4 n (omega (arith, ltb-true n 65536 t)))

cue-length : (w cue : List ℕ) → cue_word w ≡ Some cue → length w ≡ 48
unfolding cue_word
cue-length w cue h =
    by_flag (eqb (length w) 48)
    (λ t. eqb-true (length w) 48 t)
    (λ f. let e : None ≡ Some cue = rw f at h in absurd (let z : ◌≡◌ {A = ℕ} 0 1 = cc in omega arith))

-- ---- lines
long-moved : (v h : List ℕ) → 63 < total (v ∷ h ∷ []) → moved_in v h ≡ malformed
unfolding moved_in total
long-moved v h l = go (move_word v) (unsigned_word h) refl refl
  where
    go : (m : Option Move) (k : Option ℕ) → move_word v ≡ m → unsigned_word h ≡ k → moved_of m k ≡ malformed
    go (Some m) (Some k) p q =
        by_flag (host_is k) (λ t. absurd (omega (arith, move-length v m p, host-length h k q t))) (λ f. rw f)
    go (Some m) None p q = refl
    go None k p q = refl

long-sent : (v h n c : List ℕ) → 63 < total (v ∷ h ∷ n ∷ c ∷ []) → sent_in v h n c ≡ malformed
unfolding sent_in total
long-sent v h n c l =
    by_flag (same v send)
    (λ t. rw t (go (same_length v send t) (unsigned_word h) (unsigned_word n) (cue_word c) refl refl refl))
    (λ f. rw f)
  where
    go : length v ≡ 4 → (a b : Option ℕ) (d : Option (List ℕ)) → unsigned_word h ≡ a → unsigned_word n ≡ b → cue_word c ≡ d → sent_of a b d ≡ malformed
    go e (Some a) (Some b) (Some d) p q r =
        by_flag (host_is a && number_is b)
        (λ t.
        let x = both (host_is a) (number_is b) t in
        absurd (omega (arith, host-length h a p x.0, number-length n b q x.1, cue-length c d r)))
        (λ f. rw f)
    go e (Some a) (Some b) None p q r = refl
    go e (Some a) None d p q r = refl
    go e None b d p q r = refl

long-got : (v h s n c : List ℕ) → 63 < total (v ∷ h ∷ s ∷ n ∷ c ∷ []) → got_in v h s n c ≡ malformed
unfolding got_in total
long-got v h s n c l =
    by_flag (same v got)
    (λ t. rw t (go (same_length v got t) (unsigned_word h) (unsigned_word s) (unsigned_word n) (cue_word c) refl refl refl refl))
    (λ f. rw f)
  where
    go : length v ≡ 3 → (a b d : Option ℕ) (k : Option (List ℕ)) → unsigned_word h ≡ a → unsigned_word s ≡ b → unsigned_word n ≡ d → cue_word c ≡ k
        → got_of a b d k ≡ malformed
    go e (Some a) (Some b) (Some d) (Some k) p q r m =
        by_flag (host_is a && (host_is b && number_is d))
        (λ t.
        let x = both (host_is a) (host_is b && number_is d) t in
        let y = both (host_is b) (number_is d) x.1 in
        absurd (omega (arith, host-length h a p x.0, host-length s b q y.0, number-length n d r y.1, cue-length c k m)))
        (λ f. rw f)
    go e (Some a) (Some b) (Some d) None p q r m = refl
    go e (Some a) (Some b) None k p q r m = refl
    go e (Some a) None d k p q r m = refl
    go e None b d k p q r m = refl

long-words : (l : List (List ℕ)) → 63 < total l → line_in l ≡ malformed
unfolding line_in
long-words [] h = refl
long-words (v ∷ []) h = refl
long-words (v ∷ a ∷ []) h = long-moved v a h
long-words (v ∷ a ∷ n ∷ []) h = refl
long-words (v ∷ a ∷ n ∷ c ∷ []) h = long-sent v a n c h
long-words (v ∷ a ∷ s ∷ n ∷ c ∷ []) h = long-got v a s n c h
long-words (v ∷ a ∷ s ∷ n ∷ c ∷ x ∷ l) h = refl

pub long-line : (s : List ℕ) → 62 < length s → line_of s ≡ malformed
long-line s h = long-words (words s) (omega (arith, words_total s))
