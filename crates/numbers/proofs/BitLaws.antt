-- The laws of `specs/Bits.antt`: a set's other members stay as they are when one is put in, and w digits hold no more than w members.
use mathlib.Core.Path.{◌≡◌, refl, sym, ap, ◌∙◌, subst}
use mathlib.Core.Bool.{Bool, true, false}
use Prim.Native.Nat.{ℕ, zero, suc, ◌+◌, ◌*◌, ◌/◌, ◌%◌, ◌^◌, ◌≤◌, ◌<◌}
use native.Mathlib.Nat.{zero-div, pow-suc, pow-succ', div-div-eq-div-mul, div-lt_iff_lt-mul, div-eq_of_lt, div-one, one-mul, lt_of_lt_of_le}
use native.Mathlib.Omega.{arith}
use borrow.Author.Tests.{eqb-false, eq-eqb, ne_eqb}
use lib.Arith.{digits_lt}
use lib.Dec.{eqb, eqb-suc-suc}
use lib.Pow.{pow_mono, shl_exact}
use Rattle.numbers.specs.Bits.{bit, with_bit, members}
use Rattle.numbers.proofs.Cases.{by_flag, by_order}

-- ---- one digit

pub bit-none : (i : ℕ) → bit 0 i ≡ false
unfolding bit
bit-none i = ap (λ (n : ℕ). eqb (n % 2) 1) (zero-div (2 ^ i))

pub bit-some : (set i : ℕ) → bit set i ≡ true → eqb set 0 ≡ false
bit-some zero i h =
    let e : ◌≡◌ {A = Bool} true false = sym h ∙ bit-none i in
    cc
bit-some (suc set) i h = ne_eqb (suc set) 0 (λ e. omega arith)

pub bit-above : (set i w : ℕ) → set < 2 ^ w → w ≤ i → bit set i ≡ false
unfolding bit
bit-above set i w h k = ap (λ (n : ℕ). eqb (n % 2) 1) (div-eq_of_lt (lt_of_lt_of_le h (pow_mono k)))

-- the last digit, and those before it
bit-last : (set : ℕ) → bit set 0 ≡ eqb (set % 2) 1
unfolding bit
bit-last set = ap (λ (n : ℕ). eqb (n % 2) 1) (div-one set)

bit-suc : (set i : ℕ) → bit set (suc i) ≡ bit (set / 2) i
unfolding bit
bit-suc set i = ap (λ (n : ℕ). eqb (n % 2) 1) (ap (λ (p : ℕ). set / p) (pow-succ' 2 i) ∙ sym (div-div-eq-div-mul set 2 (2 ^ i)))

-- ---- one more member

pub with_in : (set i : ℕ) → bit set i ≡ true → with_bit set i ≡ set
unfolding with_bit
with_in set i h = rw h

with_new : (set i : ℕ) → bit set i ≡ false → with_bit set i ≡ set + 2 ^ i
unfolding with_bit
with_new set i h = rw h

with_suc : (set i : ℕ) → with_bit set (suc i) ≡ with_bit (set / 2) i * 2 + set % 2
with_suc set i =
    by_flag (bit (set / 2) i)
    (λ h. with_in set (suc i) (bit-suc set i ∙ h) ∙ omega (arith, with_in (set / 2) i h))
    (λ h. with_new set (suc i) (bit-suc set i ∙ h) ∙ omega (arith, with_new (set / 2) i h, pow-suc 2 i))

-- its last digit, and those before it
with_suc_last : (set i : ℕ) → with_bit set (suc i) % 2 ≡ set % 2
with_suc_last set i = omega (arith, with_suc set i)

with_suc_rest : (set i : ℕ) → with_bit set (suc i) / 2 ≡ with_bit (set / 2) i
with_suc_rest set i = omega (arith, with_suc set i)

with_zero_rest : (set : ℕ) → with_bit set 0 / 2 ≡ set / 2
with_zero_rest set =
    by_flag (bit set 0)
    (λ h. ap (λ (n : ℕ). n / 2) (with_in set 0 h))
    (λ h. let e = eqb-false (set % 2) 1 (sym (bit-last set) ∙ h) in omega (arith, with_new set 0 h, e))

pub bit_with : (set i : ℕ) → bit (with_bit set i) i ≡ true
bit_with set zero =
    by_flag (bit set 0)
    (λ h. ap (λ (n : ℕ). bit n 0) (with_in set 0 h) ∙ h)
    (λ h.
    let e = eqb-false (set % 2) 1 (sym (bit-last set) ∙ h) in
    bit-last (with_bit set 0) ∙ eq-eqb (with_bit set 0 % 2) 1 (omega (arith, with_new set 0 h, e)))
bit_with set (suc i) = bit-suc (with_bit set (suc i)) i ∙ ap (λ (n : ℕ). bit n i) (with_suc_rest set i) ∙ bit_with (set / 2) i

pub bit-other : (set i j : ℕ) → eqb j i ≡ false → bit (with_bit set i) j ≡ bit set j
bit-other set zero zero h = absurd (eqb-false 0 0 h refl)
bit-other set zero (suc j) h = bit-suc (with_bit set 0) j ∙ ap (λ (n : ℕ). bit n j) (with_zero_rest set) ∙ sym (bit-suc set j)
bit-other set (suc i) zero h = bit-last (with_bit set (suc i)) ∙ ap (λ (n : ℕ). eqb n 1) (with_suc_last set i) ∙ sym (bit-last set)
bit-other set (suc i) (suc j) h =
    bit-suc (with_bit set (suc i)) j
    ∙ ap (λ (n : ℕ). bit n j) (with_suc_rest set i)
    ∙ bit-other (set / 2) i j (sym (eqb-suc-suc j i) ∙ h)
    ∙ sym (bit-suc set j)

-- w digits hold the set with any of 0 .. w - 1 in it
pub with_below : (set i w : ℕ) → set < 2 ^ w → i < w → with_bit set i < 2 ^ w
with_below set i zero h k = absurd (omega arith)
with_below set zero (suc w) h k =
    let p : 2 ^ suc w ≡ 2 ^ w * 2 = pow-suc 2 w in
    omega (arith, with_zero_rest set)
with_below set (suc i) (suc w) h k =
    let rest : set / 2 < 2 ^ w = (div-lt_iff_lt-mul {k = 2} (omega arith)).1 (subst (λ (p : ℕ). set < p) (pow-suc 2 w) h) in
    rw (with_suc, pow-suc) (digits_lt (with_below (set / 2) i w rest (omega arith)) (omega arith))

-- a machine's `set + (1 << i)`, where 1 << i is a product cut to 64 bits
pub with_shift : (set i : ℕ) → i < 64 → bit set i ≡ false → set + (1 * 2 ^ i) % 2 ^ 64 ≡ with_bit set i
with_shift set i k h =
    let whole : (1 * 2 ^ i) % 2 ^ 64 ≡ 1 * 2 ^ i = shl_exact {a = 1} 1 i 64 (omega arith) (omega arith) in
    ap (λ (n : ℕ). set + n) (whole ∙ one-mul (2 ^ i)) ∙ sym (with_new set i h)

-- ---- how many

members_in : (set w : ℕ) → bit set w ≡ true → members set (suc w) ≡ suc (members set w)
unfolding members
members_in set w h = rw h

members-out : (set w : ℕ) → bit set w ≡ false → members set (suc w) ≡ members set w
unfolding members
members-out set w h = rw h

pub members-below : (set w : ℕ) → members set w ≤ w
unfolding members
members-below set zero = omega arith
members-below set (suc w) =
    by_flag (bit set w)
    (λ h. omega (arith, members_in set w h, members-below set w))
    (λ h. omega (arith, members-out set w h, members-below set w))

-- one more in the set counts no more among those below it
members-other : (set i w : ℕ) → w ≤ i → members (with_bit set i) w ≡ members set w
unfolding members
members-other set i zero k = refl
members-other set i (suc w) k =
    rw (bit-other set i w (ne_eqb w i (λ e. omega arith)), members-other set i w (omega arith))

pub members_with : (set i w : ℕ) → bit set i ≡ false → i < w → members (with_bit set i) w ≡ suc (members set w)
members_with set i zero h k = absurd (omega arith)
members_with set i (suc w) h k =
    by_order i w
    (λ l.
    let same = bit-other set i w (ne_eqb w i (λ e. omega arith)) in
    let more = members_with set i w h l in
    by_flag (bit set w)
    (λ b. members_in (with_bit set i) w (same ∙ b) ∙ ap suc (more ∙ sym (members_in set w b)))
    (λ b. members-out (with_bit set i) w (same ∙ b) ∙ more ∙ ap suc (sym (members-out set w b))))
    (λ g.
    let e : i ≡ w = omega arith in
    members_in (with_bit set i) w (ap (bit (with_bit set i)) (sym e) ∙ bit_with set i)
    ∙ ap suc (members-other set i w g ∙ sym (members-out set w (ap (bit set) (sym e) ∙ h))))

-- one that is not in the set leaves room for one more
pub members_less : (set i w : ℕ) → i < w → bit set i ≡ false → suc (members set w) ≤ w
members_less set i w k h = omega (arith, members_with set i w h k, members-below (with_bit set i) w)

-- ---- some sets

five_in_32 : bit 32 5 ≡ true
unfolding bit
five_in_32 = refl

five_not_in_31 : bit 31 5 ≡ false
unfolding bit
five_not_in_31 = refl

seven_alone : with_bit 0 7 ≡ 128
unfolding bit with_bit
seven_alone = refl

seven_again : with_bit 128 7 ≡ 128
unfolding bit with_bit
seven_again = refl

-- 161 is 128 + 32 + 1
three-members : members 161 8 ≡ 3
unfolding bit members
three-members = refl
