-- Sets as binary digits, over every width: a set up from a place, its first places turned over, and the lowest place that is not in it. `bit`
-- and `with_bit` are of the crate numbers, specs/Bits.antt.
use mathlib.Core.Path.{◌≡◌, refl, sym, ap, ◌∙◌, subst}
use mathlib.Core.Bool.{true, false, not}
use Prim.Native.Nat.{ℕ, zero, suc, ◌+◌, ◌-◌, ◌*◌, ◌/◌, ◌%◌, ◌^◌, ◌≤◌, ◌<◌}
use native.Mathlib.Nat.{pow-suc, one-mul, mod-lt, div-one, div-eq_of_lt, div-lt_iff_lt-mul, lt_of_lt_of_le}
use native.Mathlib.Numerals.{add-one}
use native.Mathlib.Omega.{arith}
use lib.Dec.{eqb, ltb}
use lib.Pow.{pow_pos, pow_mono, shl_exact, shr-shr, mod-pow-add, ones_sub-lt}
use borrow.Author.Tests.{eqb-true, eqb-false, eq-eqb, ne_eqb, lt-ltb, le-ltb}
use Rattle.numbers.specs.Bits.{bit}
use Rattle.numbers.proofs.Cases.{by_flag, by_order}
use Rattle.numbers.proofs.BitLaws.{bit-above}
use Rattle.std.specs.Prelude.{Option, Some, None, MatchOption}
use Rattle.display_window.specs.Window.{unreceived, lowest_clear}

-- ---- up from a place
pub bit_up : (set k i : ℕ) → bit (set / 2 ^ k) i ≡ bit set (k + i)
unfolding bit
bit_up set k i = ap (λ (n : ℕ). eqb (n % 2) 1) (shr-shr set k i)

-- nothing of a set stands past its digits
pub up-past : (set k w : ℕ) → set < 2 ^ w → w ≤ k → set / 2 ^ k ≡ 0
up-past set k w h l = div-eq_of_lt (lt_of_lt_of_le h (pow_mono l))

pub up_none : (set k : ℕ) → eqb (set / 2 ^ k) 0 ≡ ltb set (2 ^ k)
up_none set k =
    by_order set (2 ^ k)
    (λ l. eq-eqb (set / 2 ^ k) 0 (div-eq_of_lt l) ∙ sym (lt-ltb set (2 ^ k) l))
    (λ g.
    let low : set / 2 ^ k ≡ 0 → set < 1 * 2 ^ k = λ e. (div-lt_iff_lt-mul {k = 2 ^ k} (pow_pos k)).0 (omega (arith, e)) in
    ne_eqb (set / 2 ^ k) 0 (λ e. omega (arith, low e, one-mul (2 ^ k))) ∙ sym (le-ltb set (2 ^ k) g))

-- ---- the first places turned over

pub turned_below : (k set : ℕ) → unreceived k set < 2 ^ k
turned_below k set = ones_sub-lt k (set % 2 ^ k)

pub turned_past : (k set i : ℕ) → k ≤ i → bit (unreceived k set) i ≡ false
turned_past k set i l = bit-above (unreceived k set) i k (turned_below k set) l

-- one place more: the last digit, and those before it
turned_suc : (k set : ℕ) → unreceived (suc k) set ≡ unreceived k (set / 2) * 2 + (1 - set % 2)
turned_suc k set =
    let p : 2 ^ suc k ≡ 2 ^ k * 2 = pow-suc 2 k in
    let rest : set % 2 ^ suc k ≡ set / 2 % 2 ^ k * 2 + set % 2 = rw add-one at (mod-pow-add set k 1) in
    let less : set / 2 % 2 ^ k < 2 ^ k = mod-lt (set / 2) (pow_pos k) in
    omega (arith, p, rest, less)

bit-suc : (set i : ℕ) → bit (set / 2) i ≡ bit set (suc i)
bit-suc set i = bit_up set 1 i ∙ ap (bit set) (omega arith)

bit-last : (set : ℕ) → bit set 0 ≡ eqb (set % 2) 1
unfolding bit
bit-last set = ap (λ (n : ℕ). eqb (n % 2) 1) (div-one set)

last_turned : (set other : ℕ) → other % 2 ≡ 1 - set % 2 → eqb (other % 2) 1 ≡ not (eqb (set % 2) 1)
last_turned set other e =
    by_flag (eqb (set % 2) 1)
    (λ t. let one : set % 2 ≡ 1 = eqb-true (set % 2) 1 t in rw t (ne_eqb (other % 2) 1 (λ f. omega arith)))
    (λ t. let other-one = eqb-false (set % 2) 1 t in rw t (eq-eqb (other % 2) 1 (omega (arith, other-one))))

pub turned_bit : (k set i : ℕ) → i < k → bit (unreceived k set) i ≡ not (bit set i)
turned_bit zero set i l = absurd (omega arith)
turned_bit (suc k) set zero l =
    bit-last (unreceived (suc k) set)
    ∙ last_turned set (unreceived (suc k) set) (omega (arith, turned_suc k set))
    ∙ ap not (sym (bit-last set))
turned_bit (suc k) set (suc i) l =
    let half : unreceived (suc k) set / 2 ≡ unreceived k (set / 2) = omega (arith, turned_suc k set) in
    sym (bit-suc (unreceived (suc k) set) i)
    ∙ ap (λ (n : ℕ). bit n i) half
    ∙ turned_bit k (set / 2) i (omega arith)
    ∙ ap not (bit-suc set i)

-- ---- the lowest place that is not in the set
pub clear_next : (set k : ℕ) → lowest_clear set k ≡ None → bit set k ≡ false → lowest_clear set (suc k) ≡ Some k
unfolding lowest_clear
clear_next set k h b = rw (h, b)

pub clear_none : (set k : ℕ) → lowest_clear set k ≡ None → bit set k ≡ true → lowest_clear set (suc k) ≡ None
unfolding lowest_clear
clear_none set k h b = rw (h, b)

pub clear-keeps : (set k i : ℕ) → lowest_clear set k ≡ Some i → lowest_clear set (suc k) ≡ Some i
unfolding lowest_clear
clear-keeps set k i h = rw h

pub clear_stays : (set k i m : ℕ) → lowest_clear set k ≡ Some i → k ≤ m → lowest_clear set m ≡ Some i
clear_stays set k i zero h l = let e : k ≡ 0 = omega arith in subst (λ (n : ℕ). lowest_clear set n ≡ Some i) e h
clear_stays set k i (suc m) h l =
    by_order k (suc m)
    (λ b. clear-keeps set m i (clear_stays set k i m h (omega arith)))
    (λ g. let e : k ≡ suc m = omega arith in subst (λ (n : ℕ). lowest_clear set n ≡ Some i) e h)

none-clear : (set i : ℕ) → lowest_clear set 0 ≡ Some i → ⊥
unfolding lowest_clear
none-clear set i h = let z : ◌≡◌ {A = ℕ} 0 1 = cc in omega arith

pub clear-below : (set k i : ℕ) → lowest_clear set k ≡ Some i → i < k
clear-below set zero i h = absurd (none-clear set i h)
clear-below set (suc k) i h = by_answer (lowest_clear set k) refl (λ j p. clear-below set k j p)
  where
    by_answer : (o : Option ℕ) → lowest_clear set k ≡ o → ((j : ℕ) → lowest_clear set k ≡ Some j → j < k) → i < suc k
    by_answer None p rest =
        by_flag (bit set k)
        (λ b. let e : None ≡ Some i = sym (clear_none set k p b) ∙ h in let z : ◌≡◌ {A = ℕ} 0 1 = cc in absurd (omega arith))
        (λ b. let e : Some k ≡ Some i = sym (clear_next set k p b) ∙ h in let f : k ≡ i = cc in omega arith)
    by_answer (Some j) p rest =
        let e : Some j ≡ Some i = sym (clear-keeps set k j p) ∙ h in
        let f : j ≡ i = cc in
        omega (arith, rest j p)

-- what a search from place 0 on finds is the lowest
pub none-below : (set k : ℕ) → ((i : ℕ) → i < k → bit set i ≡ true) → lowest_clear set k ≡ None
unfolding lowest_clear
none-below set zero h = refl
none-below set (suc k) h = clear_none set k (none-below set k (λ i l. h i (omega arith))) (h k (omega arith))

pub lowest-below : (set k i : ℕ) → i < k → bit set i ≡ false → ((j : ℕ) → j < i → bit set j ≡ true) → lowest_clear set k ≡ Some i
lowest-below set k i l b h = clear_stays set (suc i) i k (clear_next set i (none-below set i h) b) (omega arith)

pub first-is-lowest : (set k : ℕ) (o : Option ℕ)
    → MatchOption o
    ((i : ℕ) → 0 ≤ i → i < k → bit set i ≡ true)
    (λ i. (0 ≤ i) × (i < k) × (bit set i ≡ false) × ((j : ℕ) → 0 ≤ j → j < i → bit set j ≡ true))
    → o ≡ lowest_clear set k
first-is-lowest set k None h = rw (none-below set k (λ i l. h i (omega arith) l))
first-is-lowest set k (Some i) h = rw (lowest-below set k i h.1 h.2 (λ j l. h.3 j (omega arith) l))
