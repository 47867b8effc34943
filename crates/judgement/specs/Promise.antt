-- What the functions promise.
use Rattle.std.specs.Prelude.{◌≡◌, List, ℕ, ◌+◌, ◌≤◌, length}
use Rattle.numbers.specs.Splice.{splice}

-- b is written from `at` on, and `end` is where it ends
pub record Puts (at : ℕ) (b before output : List ℕ) (end : ℕ) : Type 0 where
  pub bytes : output ≡ splice at b before
  pub ends : end ≡ at + length b
  pub inside : end ≤ length output
