-- A line as its bytes are taken: one byte more.
use mathlib.Core.Path.{◌≡◌, sym, ap, ◌∙◌}
use mathlib.Core.Bool.{Bool, true, false, cond}
use mathlib.Core.List.{List, ◌∷◌}
use Prim.Native.Nat.{ℕ, ◌+◌, ◌<◌}
use native.Mathlib.Numerals.{add-one}
use native.Mathlib.Omega.{arith}
use lib.ListN.{length, drop, set, get_or}
use lib.Seq.{drop-cons}
use lib.Dec.{eqb, ltb}
use Rattle.lines.specs.declared.Fed.{Fed}
use Rattle.lines.specs.declared.Fed.TheVariants.{More, Whole, TooLong}
use Rattle.lines.specs.declared.Cut.{Cut}
use Rattle.lines.specs.Cut.{longest, fed_of, onward, line_with, cut_of, line_cut}

more_of : (t u : Bool) (len m : ℕ) → cond t (Whole len) (cond u (More (len + 1)) TooLong) ≡ More m → m ≡ len + 1
more_of true u len m p = let z : ◌≡◌ {A = ℕ} 0 1 = cc in absurd (omega arith)
more_of false true len m p = cc
more_of false false len m p = let z : ◌≡◌ {A = ℕ} 0 1 = cc in absurd (omega arith)

-- a line that goes on has one byte more
pub more-next : (len b m : ℕ) → fed_of len b ≡ More m → m ≡ len + 1
unfolding fed_of
more-next len b m p = more_of (eqb b 10) (ltb len longest) len m p

module _ (piece : List ℕ) (at n : ℕ) (line : List ℕ) (h : at < length piece) where
  abbrev rest : List ℕ
  rest = drop (at + 1) piece

  abbrev b : ℕ
  b = get_or piece at 0

  next : drop at piece ≡ b ∷ rest
  next = drop-cons piece at 0 h ∙ ap (λ (i : ℕ). b ∷ drop i piece) (sym (add-one at))

  abbrev ended : Cut
  ended = record { fed = fed_of n b; at = at + 1 }

  stepped : cut_of (drop at piece) at n ≡ onward (fed_of n b) (cut_of rest (at + 1) (n + 1)) ended
  unfolding cut_of
  stepped = ap (λ (l : List ℕ). cut_of l at n) next

  lined : line_cut (drop at piece) n line ≡ onward (fed_of n b) (line_cut rest (n + 1) (set line n b)) line
  unfolding line_cut
  lined = ap (λ (l : List ℕ). line_cut l n line) next

  pub cut_more : (m : ℕ) → fed_of n b ≡ More m
      → (cut_of rest (at + 1) m ≡ cut_of (drop at piece) at n) × (line_cut rest m (line_with n b line) ≡ line_cut (drop at piece) n line)
  cut_more m p =
      let e = more-next n b m p in (
        ap (cut_of rest (at + 1)) e ∙ sym (stepped ∙ ap (λ (f : Fed). onward f (cut_of rest (at + 1) (n + 1)) ended) p),
        (λ i. line_cut rest (e i) (onward (p i) (set line n b) line)) ∙ sym (lined ∙ ap (λ (f : Fed). onward f (line_cut rest (n + 1) (set line n b)) line) p),
      )

  -- what ends a line leaves its buffer
  module _ (f : Fed) (ends : (A : Type 0) (x y : A) → onward f x y ≡ y) (p : fed_of n b ≡ f) where
    pub cut_ended : (record { fed = f; at = at + 1 } ≡ cut_of (drop at piece) at n) × (line_with n b line ≡ line_cut (drop at piece) n line)
    cut_ended = (
      (λ i. record { fed = sym p i; at = at + 1 }) ∙ sym (ends Cut (cut_of rest (at + 1) (n + 1)) ended) ∙ sym (stepped ∙ ap (λ (g : Fed). onward g (cut_of rest (at + 1) (n + 1)) ended) p),
      ap (λ (g : Fed). onward g (set line n b) line) p ∙ ends (List ℕ) (set line n b) line ∙ sym (ends (List ℕ) (line_cut rest (n + 1) (set line n b)) line) ∙ sym (lined ∙ ap (λ (g : Fed). onward g (line_cut rest (n + 1) (set line n b)) line) p),
    )
