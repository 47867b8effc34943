-- One number before and after trail and lead rise, and before and after it is received: over any trail t, lead l and set s of a sound window.
use mathlib.Core.Path.{◌≡◌, sym, ap, ◌∙◌}
use mathlib.Core.Bool.{true, false, not, ◌&&◌, and-false}
use Prim.Native.Nat.{ℕ, ◌+◌, ◌-◌, ◌/◌, ◌^◌, ◌≤◌, ◌<◌, min}
use native.Mathlib.Omega.{arith}
use lib.Dec.{leb, ltb, eqb}
use borrow.Author.Tests.{le-leb, lt-leb, lt-ltb, le-ltb, ne_eqb, eqb-true, eqb-false}
use Rattle.numbers.specs.Bits.{bit, with_bit}
use Rattle.numbers.proofs.Cases.{by_flag, by_order}
use Rattle.numbers.proofs.BitLaws.{bit-above, bit_with, bit-other}
use Rattle.display_window.specs.Window.{unreceived, lost_above}
use Rattle.display_window.proofs.SetLaws.{bit_up, turned_bit, turned_past}
use Rattle.display_window.proofs.WindowLaws.{SoundWindow}
use Rattle.display_history.specs.History.{one, in_span}

-- ---- the span above the old lead
span_in : (l top n : ℕ) → l < n → n < top → in_span (lost_above l top) n ≡ true
span_in l top n a b = rw (lt-ltb (l + 1) top (omega arith), le-leb (l + 1) n (omega arith), le-leb n (top - 1) (omega arith))

pub span_low : (l top n : ℕ) → n ≤ l → in_span (lost_above l top) n ≡ false
span_low l top n a =
    by_flag (ltb (l + 1) top)
    (λ t. rw (t, lt-leb (l + 1) n (omega arith)))
    (λ t. rw t)

span_high : (l top n : ℕ) → top ≤ n → in_span (lost_above l top) n ≡ false
span_high l top n a =
    by_order (l + 1) top
    (λ b. rw (lt-ltb (l + 1) top b, lt-leb n (top - 1) (omega arith)) (and-false (leb (l + 1) n)))
    (λ b. rw (le-ltb (l + 1) top b))

module _ (t l s top n : ℕ) (w : SoundWindow t l s) (up : t ≤ top) where
  -- above the old lead nothing was received
  none_above : l < n → bit s (n - t) ≡ false
  none_above a = bit-above s (n - t) (l + 1 - t) w.within (omega (arith, w.ordered))

  -- ---- losses: the numbers that trail passed and that were not received
  pub lost-at : one (leb t n && bit (unreceived (min top (l + 1) - t) s) (n - t)) + one (in_span (lost_above l top) n)
      ≡ one ((leb t n && not (leb top n)) && not (leb t n && bit s (n - t)))
  lost-at =
      by_order n t
      (λ a. rw (lt-leb t n a, span_low l top n (omega (arith, w.ordered))))
      (λ a.
      by_order n top
      (λ b.
      by_order l n
      (λ c. rw (le-leb t n a, lt-leb top n b, turned_past (min top (l + 1) - t) s (n - t) (omega arith), span_in l top n c b, none_above c))
      (λ c. rw (le-leb t n a, lt-leb top n b, turned_bit (min top (l + 1) - t) s (n - t) (omega arith), span_low l top n c) (omega arith)))
      (λ b. rw (le-leb t n a, le-leb top n b, turned_past (min top (l + 1) - t) s (n - t) (omega arith), span_high l top n b)))

  -- receptions stay those of their numbers
  pub moved-bit : top ≤ n → bit (s / 2 ^ (top - t)) (n - top) ≡ bit s (n - t)
  moved-bit a = bit_up s (top - t) (n - top) ∙ ap (bit s) (omega arith)

  -- ---- each number that was missing, or is above the old lead and up to the new one, is lost or missing now
  pub missing_at : (lead : ℕ) → l ≤ lead → top ≤ lead
      → one ((leb t n && not (leb top n)) && not (leb t n && bit s (n - t))) + one ((leb top n && leb n lead) && not (bit (s / 2 ^ (top - t)) (n - top)))
      ≡ one ((leb t n && leb n l) && not (bit s (n - t))) + one (ltb l n && leb n lead)
  missing_at lead more fits =
      by_order n t
      (λ a. rw (lt-leb t n a, lt-leb top n (omega arith), le-ltb l n (omega (arith, w.ordered))))
      (λ a.
      by_order n top
      (λ b.
      by_order l n
      (λ c. rw (le-leb t n a, lt-leb top n b, lt-leb n l c, lt-ltb l n c, le-leb n lead (omega arith), none_above c))
      (λ c. rw (le-leb t n a, lt-leb top n b, le-leb n l c, le-ltb l n c) (omega arith)))
      (λ b.
      by_order l n
      (λ c. rw (le-leb t n a, le-leb top n b, lt-leb n l c, lt-ltb l n c, moved-bit b, none_above c) (omega (arith, above c)))
      (λ c. rw (le-leb t n a, le-leb top n b, le-leb n l c, le-ltb l n c, le-leb n lead (omega arith), moved-bit b) (omega arith))))
    where
      above : l < n → one (leb n lead && true) ≡ one (leb n lead)
      above c = by_flag (leb n lead) (λ x. rw x) (λ x. rw x)

-- ---- a number k is received: it was missing, and all others are as they were
module _ (t l s k n : ℕ) (low : t ≤ k) (high : k ≤ l) (new : bit s (k - t) ≡ false) where
  pub other-bit : t ≤ n → eqb k n ≡ false → bit (with_bit s (k - t)) (n - t) ≡ bit s (n - t)
  other-bit a e = let apart = eqb-false k n e in bit-other s (k - t) (n - t) (ne_eqb (n - t) (k - t) (λ f. apart (omega arith)))

  pub same_bit : eqb k n ≡ true → bit (with_bit s (k - t)) (n - t) ≡ true
  same_bit e = ap (λ (i : ℕ). bit (with_bit s (k - t)) (i - t)) (sym (eqb-true k n e)) ∙ bit_with s (k - t)

  pub new_bit : eqb k n ≡ true → bit s (n - t) ≡ false
  new_bit e = ap (λ (i : ℕ). bit s (i - t)) (sym (eqb-true k n e)) ∙ new

  pub received-at : one (eqb k n) + one ((leb t n && leb n l) && not (bit (with_bit s (k - t)) (n - t))) ≡ one ((leb t n && leb n l) && not (bit s (n - t)))
  received-at =
      by_flag (eqb k n)
      (λ e. let same : k ≡ n = eqb-true k n e in rw (e, le-leb t n (omega arith), le-leb n l (omega arith), same_bit e, new_bit e))
      (λ e.
      by_order n t
      (λ a. rw (e, lt-leb t n a))
      (λ a. rw (e, other-bit a e) (omega arith)))
