-- What is printed reads back as itself, and each accepted word is the very bytes that its number is printed as.
use mathlib.Core.Path.{◌≡◌, refl, sym, ap, ◌∙◌}
use mathlib.Core.Bool.{true, not, ◌&&◌}
use mathlib.Core.List.{List, [], ◌∷◌, ◌++◌, append_assoc, append-nil}
use Prim.Native.Nat.{ℕ, zero, suc, ◌+◌, ◌*◌, ◌-◌, ◌/◌, ◌%◌, ◌^◌, ◌≤◌, ◌<◌}
use native.Mathlib.Omega.{arith}
use lib.Arith.{digits_div, digits_mod}
use lib.Dec.{ltb, leb, eqb}
use lib.IntN.{ℤ, pos, negsuc}
use lib.ListN.{get_or, drop}
use borrow.Author.Tests.{lt-ltb, le-leb, ltb-true, leb-true, eqb-true, eqb-false, ne_eqb, not-true}
use mir.Syntax.{w16}
use mir.Val.{SFits}
use Rattle.std.specs.Prelude.{None, Option, Some}
use Rattle.numbers.proofs.Cases.{by_flag, by_order}
use Rattle.decimal.specs.Decimal.{decimal, signed_decimal, is_digit, all_digits, well_written, value_after, unsigned_word, as_positive, as_negative, signed_word}
use Rattle.decimal.proofs.DecimalLaws.{both, after_more, digit_range, figure_digit, all_more, decimal-one, decimal-more}
use Rattle.decimal.proofs.WordLaws.{is_number}

-- ---- printed, then read

-- the digits of a number stand for it; `most` is at least the number
value-within : (most n : ℕ) → n ≤ most → value_after 0 (decimal n) ≡ n
unfolding value_after
value-within zero n h =
    let e : 0 * 10 + (48 + n - 48) ≡ n = omega arith in
    ap (value_after 0) (decimal-one n (omega arith)) ∙ e
value-within (suc most) n h =
    by_order n 10
    (λ l. let e : 0 * 10 + (48 + n - 48) ≡ n = omega arith in ap (value_after 0) (decimal-one n l) ∙ e)
    (λ g.
    let e : value_after 0 (decimal (n / 10)) * 10 + (48 + n % 10 - 48) ≡ n = omega (arith, value-within most (n / 10) (omega arith)) in
    ap (value_after 0) (decimal-more n g) ∙ after_more 0 (decimal (n / 10)) (48 + n % 10) ∙ e)

pub value-decimal : (n : ℕ) → value_after 0 (decimal n) ≡ n
value-decimal n = value-within n n (omega arith)

-- a number above 0 starts with a digit that is not "0", and digits follow
Printed : ℕ → Type 0
Printed n = (d : ℕ) × (l : List ℕ) × (decimal n ≡ d ∷ l) × (49 ≤ d) × (d ≤ 57) × (all_digits l ≡ true)

printed-within : (most n : ℕ) → n ≤ most → 1 ≤ n → Printed n
unfolding Printed all_digits
printed-within zero n h k = absurd (omega arith)
printed-within (suc most) n h k =
    by_order n 10
    (λ l. (48 + n, [], decimal-one n l, omega arith, omega arith, refl))
    (λ g.
    let p = printed-within most (n / 10) (omega arith) (omega arith) in
    let x : ℕ = 48 + n % 10 in
    (p.0, p.1 ++ (x ∷ []), decimal-more n g ∙ ap (λ (l : List ℕ). l ++ (x ∷ [])) p.2, p.3, p.4, all_more p.1 x p.5 (figure_digit (n % 10) (omega arith))))

written_cons : (d : ℕ) (l : List ℕ) → 49 ≤ d → d ≤ 57 → all_digits l ≡ true → well_written (d ∷ l) ≡ true
unfolding well_written all_digits
written_cons d [] a b h = rw (le-leb 48 d (omega arith), le-leb d 57 b)
written_cons d (c ∷ l) a b h = rw (ne_eqb d 48 (λ e. omega arith), le-leb 48 d (omega arith), le-leb d 57 b) h

written-decimal : (n : ℕ) → well_written (decimal n) ≡ true
unfolding well_written Printed
written-decimal n =
    by_order n 10
    (λ l. ap well_written (decimal-one n l) ∙ figure_digit n l)
    (λ g. let p = printed-within n n (omega arith) (omega arith) in ap well_written p.2 ∙ written_cons p.0 p.1 p.3 p.4 p.5)

pub printed-reads : (n : ℕ) → n < 2 ^ 64 → unsigned_word (decimal n) ≡ Some n
printed-reads n h = sym (is_number (decimal n) (written-decimal n) (omega (arith, value-decimal n))) ∙ ap Some (value-decimal n)

-- ---- read, then printed

-- digits after those of a number above 0
decimal-after : (h : ℕ) (s : List ℕ) → 1 ≤ h → all_digits s ≡ true → decimal (value_after h s) ≡ decimal h ++ s
unfolding value_after all_digits
decimal-after h [] k d = sym (append-nil (decimal h))
decimal-after h (b ∷ s) k d =
    let p = both (is_digit b) (all_digits s) d in
    let r = digit_range b p.0 in
    let n : ℕ = h * 10 + (b - 48) in
    let q : n / 10 ≡ h = digits_div h {m = 10} (omega arith) in
    let m : 48 + n % 10 ≡ b = ap (λ (k : ℕ). 48 + k) (digits_mod h {m = 10} (omega arith)) ∙ omega arith in
    decimal-after n s (omega arith) p.1
    ∙ ap (λ (l : List ℕ). l ++ s) (decimal-more n (omega arith) ∙ (λ i. decimal (q i) ++ (m i ∷ [])))
    ∙ append_assoc (decimal h) (b ∷ []) s

-- the same from the first digit on
decimal-from : (b : ℕ) (s : List ℕ) → not (eqb b 48) ≡ true → all_digits (b ∷ s) ≡ true → decimal (value_after 0 (b ∷ s)) ≡ b ∷ s
unfolding value_after all_digits
decimal-from b s z d =
    let p = both (is_digit b) (all_digits s) d in
    let r = digit_range b p.0 in
    let k : 1 ≤ 0 * 10 + (b - 48) = by_order b 49 (λ l. absurd (eqb-false b 48 (not-true (eqb b 48) z) (omega arith))) (λ g. omega arith) in
    let e : 48 + (0 * 10 + (b - 48)) ≡ b = omega arith in
    decimal-after (0 * 10 + (b - 48)) s k p.1 ∙ ap (λ (l : List ℕ). l ++ s) (decimal-one (0 * 10 + (b - 48)) (omega arith)) ∙ ap (λ (x : ℕ). x ∷ s) e

written_back : (s : List ℕ) → well_written s ≡ true → decimal (value_after 0 s) ≡ s
unfolding well_written value_after
written_back [] w = absurd (let z : ◌≡◌ {A = ℕ} 0 1 = cc in omega arith)
written_back (b ∷ []) w =
    let r = digit_range b w in
    let e : 48 + (0 * 10 + (b - 48)) ≡ b = omega arith in
    decimal-one (0 * 10 + (b - 48)) (omega arith) ∙ ap (λ (x : ℕ). x ∷ []) e
written_back (b ∷ c ∷ s) w =
    let p = both (not (eqb b 48)) (all_digits (b ∷ c ∷ s)) w in
    decimal-from b (c ∷ s) p.0 p.1

-- a word that is a number is well written, and its digits stand for that number, below 2^64
pub is_read : (s : List ℕ) (n : ℕ) → unsigned_word s ≡ Some n → (well_written s ≡ true) × (value_after 0 s ≡ n) × (n < 2 ^ 64)
unfolding unsigned_word
is_read s n h =
    by_flag (well_written s && ltb (value_after 0 s) (2 ^ 64))
    (λ t.
    let p = both (well_written s) (ltb (value_after 0 s) (2 ^ 64)) t in
    let e : Some (value_after 0 s) ≡ Some n = rw t at h in
    let v : value_after 0 s ≡ n = cc in
    (p.0, v, omega (arith, ltb-true (value_after 0 s) (2 ^ 64) p.1)))
    (λ f.
    let e : None ≡ Some n = rw f at h in
    absurd (let z : ◌≡◌ {A = ℕ} 0 1 = cc in omega arith))

pub read_printed : (s : List ℕ) (n : ℕ) → unsigned_word s ≡ Some n → decimal n ≡ s
read_printed s n h =
    let r = is_read s n h in
    ap decimal (sym r.1) ∙ written_back s r.0

-- ---- signed

-- what is printed starts with a digit, and with no minus sign
starts_with_digit : (n : ℕ) → 48 ≤ get_or (decimal n) 0 0
unfolding Printed
starts_with_digit n =
    by_order n 10
    (λ l. omega (arith, ap (λ (s : List ℕ). get_or s 0 0) (decimal-one n l)))
    (λ g. let p = printed-within n n (omega arith) (omega arith) in omega (arith, p.3, ap (λ (s : List ℕ). get_or s 0 0) p.2))

pub signed_reads : (z : ℤ) → SFits w16 z → signed_word (signed_decimal z) ≡ Some z
unfolding signed_word signed_decimal
signed_reads (pos n) f =
    let k : n < 32768 = f.sfits in
    rw (ne_eqb (get_or (decimal n) 0 0) 45 (λ e. omega (arith, starts_with_digit n)), printed-reads n (omega arith), lt-ltb n 32768 k)
signed_reads (negsuc n) f =
    let k : n < 32768 = f.sfits in
    rw (printed-reads (suc n) (omega arith), lt-ltb 0 (suc n) (omega arith), le-leb (suc n) 32768 (omega arith)) (ap (λ (m : ℕ). Some (negsuc m)) (omega arith))

-- what the two signs make of an unsigned number
positive_of : (u : Option ℕ) (z : ℤ) → as_positive u ≡ Some z → (n : ℕ) × (u ≡ Some n) × (z ≡ pos n) × (n < 32768)
positive_of (Some n) z h =
    by_flag (ltb n 32768)
    (λ t. let e : Some (pos n) ≡ Some z = rw t at h in (n, refl, (cc), ltb-true n 32768 t))
    (λ f. let e : None ≡ Some z = rw f at h in absurd (let w : ◌≡◌ {A = ℕ} 0 1 = cc in omega arith))
positive_of None z h = absurd (let w : ◌≡◌ {A = ℕ} 0 1 = cc in omega arith)

negative_of : (u : Option ℕ) (z : ℤ) → as_negative u ≡ Some z → (n : ℕ) × (u ≡ Some (suc n)) × (z ≡ negsuc n) × (n < 32768)
negative_of (Some n) z h =
    by_flag (ltb 0 n && leb n 32768)
    (λ t.
    let e : Some (negsuc (n - 1)) ≡ Some z = rw t at h in
    let p = both (ltb 0 n) (leb n 32768) t in
    let k : 0 < n = ltb-true 0 n p.0 in
    let m : n ≡ suc (n - 1) = omega arith in
    (n - 1, ap Some m, (cc), omega (arith, leb-true n 32768 p.1)))
    (λ f. let e : None ≡ Some z = rw f at h in absurd (let w : ◌≡◌ {A = ℕ} 0 1 = cc in omega arith))
negative_of None z h = absurd (let w : ◌≡◌ {A = ℕ} 0 1 = cc in omega arith)

minus_cons : (s : List ℕ) → get_or s 0 0 ≡ 45 → 45 ∷ drop 1 s ≡ s
minus_cons [] e = absurd (omega arith)
minus_cons (b ∷ s) e = ap (λ (x : ℕ). x ∷ s) (sym e)

pub signed-printed : (s : List ℕ) (z : ℤ) → signed_word s ≡ Some z → signed_decimal z ≡ s
unfolding signed_word signed_decimal
signed-printed s z h =
    by_flag (eqb (get_or s 0 0) 45)
    (λ t.
    let p = negative_of (unsigned_word (drop 1 s)) z (rw t at h) in
    ap signed_decimal p.2 ∙ ap (λ (l : List ℕ). 45 ∷ l) (read_printed (drop 1 s) (suc p.0) p.1) ∙ minus_cons s (eqb-true (get_or s 0 0) 45 t))
    (λ f.
    let p = positive_of (unsigned_word s) z (rw f at h) in
    ap signed_decimal p.2 ∙ read_printed s p.0 p.1)

-- a word that is a signed number is one of 16 bits
pub signed-fits : (s : List ℕ) (z : ℤ) → signed_word s ≡ Some z → SFits w16 z
unfolding signed_word
signed-fits s z h =
    by_flag (eqb (get_or s 0 0) 45)
    (λ t.
    let p = negative_of (unsigned_word (drop 1 s)) z (rw t at h) in
    let f : SFits w16 (negsuc p.0) = record { sfits = p.3 } in
    rw p.2 f)
    (λ e.
    let p = positive_of (unsigned_word s) z (rw e at h) in
    let f : SFits w16 (pos p.0) = record { sfits = p.3 } in
    rw p.2 f)
