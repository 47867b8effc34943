-- A line by the words that were taken, and the tests of its numbers.
use mathlib.Core.Path.{◌≡◌, sym, ap}
use mathlib.Core.Bool.{true, false, ◌&&◌}
use mathlib.Core.List.{List, ◌∷◌}
use Prim.Native.Nat.{ℕ, ◌<◌}
use native.Mathlib.Omega.{arith}
use denote.Ref.{Bor}
use borrow.Author.Tests.{ltb-true}
use Rattle.std.specs.Prelude.{Option, Some, None, is_some}
use Rattle.script.proofs.WordsLaws.{Found}
use Rattle.decimal.proofs.DecimalLaws.{both}
use Rattle.record.specs.Line.{malformed, host_is, number_is, got_in, line_in}

-- a sixth word was looked for after five: there is one, or there is none
pub six_words : (v h s n c : List ℕ) (r : Option (Bor (List ℕ))) (l m : List (List ℕ)) → Found r l m → is_some r ≡ true → malformed ≡ line_in (v ∷ h ∷ s ∷ n ∷ c ∷ l)
unfolding line_in
six_words v h s n c None l m p e = absurd (let z : ◌≡◌ {A = ℕ} 0 1 = cc in omega arith)
six_words v h s n c (Some x) l m p e = sym (ap (λ (k : List (List ℕ)). line_in (v ∷ h ∷ s ∷ n ∷ c ∷ k)) p)

pub five_words : (v h s n c : List ℕ) (r : Option (Bor (List ℕ))) (l m : List (List ℕ)) → Found r l m → is_some r ≡ false → got_in v h s n c ≡ line_in (v ∷ h ∷ s ∷ n ∷ c ∷ l)
unfolding line_in
five_words v h s n c (Some x) l m p e = absurd (let z : ◌≡◌ {A = ℕ} 0 1 = cc in omega arith)
five_words v h s n c None l m p e = sym (ap (λ (k : List (List ℕ)). line_in (v ∷ h ∷ s ∷ n ∷ c ∷ k)) p.0)

-- ---- numbers in range
pub two_in : (h n : ℕ) → (host_is h && number_is n) ≡ true → (h < 8) × (n < 65536)
two_in h n e =
    let p = both (host_is h) (number_is n) e in
    (ltb-true h 8 p.0, ltb-true n 65536 p.1)

pub three_in : (h s n : ℕ) → (host_is h && (host_is s && number_is n)) ≡ true → (h < 8) × (s < 8) × (n < 65536)
three_in h s n e =
    let p = both (host_is h) (host_is s && number_is n) e in
    let q = two_in s n p.1 in
    (ltb-true h 8 p.0, q.0, q.1)
