-- A line by the words that were taken.
use mathlib.Core.Path.{◌≡◌, sym, ap}
use mathlib.Core.Bool.{true, false}
use mathlib.Core.List.{List, ◌∷◌}
use Prim.Native.Nat.{ℕ}
use native.Mathlib.Omega.{arith}
use denote.Ref.{Bor}
use Rattle.std.specs.Prelude.{Option, Some, None, is_some}
use Rattle.script.proofs.WordsLaws.{Found}
use Rattle.entries.specs.Line.{Malformed, window_in, line_in}

-- a sixth word was looked for after five: there is one, or there is none
pub six_words : (v a b s e : List ℕ) (r : Option (Bor (List ℕ))) (l m : List (List ℕ)) → Found r l m → is_some r ≡ true → Malformed ≡ line_in (v ∷ a ∷ b ∷ s ∷ e ∷ l)
unfolding line_in
six_words v a b s e None l m p h = absurd (let z : ◌≡◌ {A = ℕ} 0 1 = cc in omega arith)
six_words v a b s e (Some x) l m p h = sym (ap (λ (k : List (List ℕ)). line_in (v ∷ a ∷ b ∷ s ∷ e ∷ k)) p)

pub five_words : (v a b s e : List ℕ) (r : Option (Bor (List ℕ))) (l m : List (List ℕ)) → Found r l m → is_some r ≡ false → window_in v a b s e ≡ line_in (v ∷ a ∷ b ∷ s ∷ e ∷ l)
unfolding line_in
five_words v a b s e (Some x) l m p h = absurd (let z : ◌≡◌ {A = ℕ} 0 1 = cc in omega arith)
five_words v a b s e None l m p h = sym (ap (λ (k : List (List ℕ)). line_in (v ∷ a ∷ b ∷ s ∷ e ∷ k)) p.0)
