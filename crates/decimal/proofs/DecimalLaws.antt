-- The laws of `specs/Decimal.antt`.
use mathlib.Core.Path.{◌≡◌, refl, sym, ap, ◌∙◌, subst}
use mathlib.Core.Bool.{Bool, true, false, ◌&&◌, and_assoc}
use mathlib.Core.List.{List, [], ◌∷◌, ◌++◌, append_assoc}
use Prim.Native.Nat.{ℕ, zero, suc, ◌+◌, ◌*◌, ◌-◌, ◌/◌, ◌%◌, ◌^◌, ◌≤◌, ◌<◌}
use native.Mathlib.Nat.{pow-suc, div-lt_iff_lt-mul}
use native.Mathlib.Numerals.{sub-one}
use native.Mathlib.Omega.{arith}
use lib.Dec.{ltb, leb}
use lib.ListN.{length, drop, set, length-append, length-set}
use lib.Seq.{drop-cons, get_or-set_same, drop-set-lt}
use lib.IntN.{ℤ, pos, negsuc}
use borrow.Author.Tests.{lt-ltb, le-ltb, le-leb, leb-true, ltb-true}
use mir.Syntax.{w16}
use mir.Val.{SFits}
use lib.Signed.{lt_z}
use Rattle.std.specs.Prelude.{unsigned_abs}
use Rattle.numbers.proofs.Cases.{by_order}
use Rattle.decimal.specs.Decimal.{figures, decimal, signed_decimal, is_digit, all_digits, value_after}

-- both tests, of two joined ones
pub both : (a b : Bool) → (a && b) ≡ true → (a ≡ true) × (b ≡ true)
both true b h = (refl, h)
both false b h = absurd (let z : ◌≡◌ {A = ℕ} 0 1 = cc in omega arith)

-- ---- the value of digits

pub after_append : (h : ℕ) (a b : List ℕ) → value_after h (a ++ b) ≡ value_after (value_after h a) b
unfolding value_after
after_append h [] b = refl
after_append h (x ∷ a) b = after_append (h * 10 + (x - 48)) a b

-- one digit more, at the end
pub after_more : (h : ℕ) (a : List ℕ) (x : ℕ) → value_after h (a ++ (x ∷ [])) ≡ value_after h a * 10 + (x - 48)
unfolding value_after
after_more h a x = after_append h a (x ∷ [])

pub after_grows : (h : ℕ) (s : List ℕ) → h ≤ value_after h s
unfolding value_after
after_grows h [] = omega arith
after_grows h (b ∷ s) = omega (arith, after_grows (h * 10 + (b - 48)) s)

-- ---- digits

pub all_append : (a b : List ℕ) → all_digits (a ++ b) ≡ (all_digits a && all_digits b)
unfolding all_digits
all_append [] b = refl
all_append (x ∷ a) b = ap (λ (t : Bool). is_digit x && t) (all_append a b) ∙ sym (and_assoc (is_digit x) (all_digits a) (all_digits b))

-- one digit more, at the end
pub all_more : (a : List ℕ) (x : ℕ) → all_digits a ≡ true → is_digit x ≡ true → all_digits (a ++ (x ∷ [])) ≡ true
unfolding all_digits
all_more a x h d = all_append a (x ∷ []) ∙ rw (h, d)

pub digit_range : (b : ℕ) → is_digit b ≡ true → (48 ≤ b) × (b ≤ 57)
digit_range b h =
    let p = both (leb 48 b) (leb b 57) h in
    (leb-true 48 b p.0, leb-true b 57 p.1)

-- a number below 10 as a digit
pub figure_digit : (n : ℕ) → n < 10 → is_digit (48 + n) ≡ true
figure_digit n h =
    let a : 48 ≤ 48 + n = omega arith in
    let b : 48 + n ≤ 57 = omega arith in
    rw (le-leb 48 (48 + n), le-leb (48 + n) 57)

-- ---- printed digits

-- as many digits as are allowed for, if they are enough
figures-same : (v w n : ℕ) → n ≤ v → n ≤ w → figures v (ltb n 10) n ≡ figures w (ltb n 10) n
unfolding figures
figures-same zero zero n h k = refl
figures-same zero (suc w) n h k = rw (lt-ltb n 10 (omega arith))
figures-same (suc v) zero n h k = rw (lt-ltb n 10 (omega arith))
figures-same (suc v) (suc w) n h k =
    by_order n 10
    (λ l. rw (lt-ltb n 10 l))
    (λ g. rw (le-ltb n 10 g) (ap (λ (l : List ℕ). l ++ ((48 + n % 10) ∷ [])) (figures-same v w (n / 10) (omega arith) (omega arith))))

-- one digit
pub decimal-one : (n : ℕ) → n < 10 → decimal n ≡ (48 + n) ∷ []
unfolding decimal figures
decimal-one zero h = refl
decimal-one (suc m) h = rw (lt-ltb (suc m) 10 h)

-- the last digit, after those of the tens
pub decimal-more : (n : ℕ) → 10 ≤ n → decimal n ≡ decimal (n / 10) ++ ((48 + n % 10) ∷ [])
unfolding decimal figures
decimal-more zero h = absurd (omega arith)
decimal-more (suc m) h = rw (le-ltb (suc m) 10 h) (ap (λ (l : List ℕ). l ++ ((48 + suc m % 10) ∷ [])) (figures-same m (suc m / 10) (suc m / 10) (omega arith) (omega arith)))

-- ---- how many digits

pub length_more : (n : ℕ) → 10 ≤ n → length (decimal n) ≡ length (decimal (n / 10)) + 1
length_more n h = ap length (decimal-more n h) ∙ length-append (decimal (n / 10)) ((48 + n % 10) ∷ [])

pub length-one : (n : ℕ) → n < 10 → length (decimal n) ≡ 1
length-one n h = ap length (decimal-one n h)

-- a number below 10 ^ (k + 1) has at most k + 1 digits
pub length_most : (k n : ℕ) → n < 10 ^ suc k → length (decimal n) ≤ suc k
length_most zero n h = omega (arith, length-one n (omega arith))
length_most (suc k) n h =
    by_order n 10
    (λ l. omega (arith, length-one n l))
    (λ g. omega (arith, length_more n g, length_most k (n / 10) ((div-lt_iff_lt-mul {k = 10} (omega arith)).1 (subst (λ (p : ℕ). n < p) (pow-suc 10 (suc k)) h))))

pub length_u64 : (n : ℕ) → n < 2 ^ 64 → length (decimal n) ≤ 20
length_u64 n h = length_most 19 n (omega arith)

pub length-least : (n : ℕ) → 1 ≤ length (decimal n)
length-least n = by_order n 10 (λ l. omega (arith, length-one n l)) (λ g. omega (arith, length_more n g))

-- a 16-bit number has at most six characters
pub length-signed : (z : ℤ) → SFits w16 z → length (signed_decimal z) ≤ 6
unfolding signed_decimal
length-signed (pos n) f =
    let k : n < 32768 = f.sfits in
    omega (arith, length_most 4 n (omega arith))
length-signed (negsuc n) f =
    let k : n < 32768 = f.sfits in
    omega (arith, length_most 4 (suc n) (omega arith))

-- one digit less is left to write
pub digits_step : (s : List ℕ) (i n : ℕ) → 10 ≤ n → 0 < i → i ≤ length s
    → decimal n ++ drop i s ≡ decimal (n / 10) ++ drop (i - 1) (set s (i - 1) (48 + n % 10))
digits_step s zero n g p h = absurd (omega arith)
digits_step s (suc j) n g p h =
    let k : j < length s = omega arith in
    let k' : j < length (set s j (48 + n % 10)) = simp length-set (omega arith) in
    rw (sub-one, decimal-more n g, append_assoc, drop-cons (set s j (48 + n % 10)) j 0 k', get_or-set_same s j (48 + n % 10) 0 k, drop-set-lt (suc j) s j (48 + n % 10) (omega arith))

-- ---- signed numbers

pub below_zero : (z : ℤ) → lt_z z (pos 0) ≡ true → 45 ∷ decimal (unsigned_abs z) ≡ signed_decimal z
unfolding signed_decimal
below_zero (pos n) h = absurd (omega (arith, ltb-true n 0 h))
below_zero (negsuc n) h = refl

pub from_zero : (z : ℤ) → lt_z z (pos 0) ≡ false → decimal (unsigned_abs z) ≡ signed_decimal z
unfolding signed_decimal
from_zero (pos n) h = refl
from_zero (negsuc n) h = absurd (let k : ◌≡◌ {A = ℕ} 0 1 = cc in omega arith)
