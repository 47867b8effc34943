-- What a form in bytes has to be: both ways between values and bytes lead back.
use Rattle.std.specs.Prelude.{◌≡◌, ℕ, ◌+◌, ◌≤◌, Bool, true, List, ◌++◌, length, take, drop}
use Rattle.numbers.specs.Number.{Bytes}

-- values of w bytes: g writes one, f reads one from place k, t is the test of its bytes, and P is what its type says of it
pub record Codec {A : Type 0} (w : ℕ) (g : A → List ℕ) (f : List ℕ → ℕ → A) (t : List ℕ → ℕ → Bool) (P : A → Type 0) : Type 0 where
  pub long : (a : A) → P a → length (g a) ≡ w
  pub back : (a : A) (s rest : List ℕ) (k : ℕ) → P a → drop k s ≡ g a ++ rest → f s k ≡ a
  pub tested : (a : A) (s rest : List ℕ) (k : ℕ) → P a → drop k s ≡ g a ++ rest → t s k ≡ true
  pub forth : (s : List ℕ) (k : ℕ) → Bytes s → k + w ≤ length s → t s k ≡ true → g (f s k) ≡ take w (drop k s)
