-- What the functions promise that write a piece of a line.
use Rattle.std.specs.Prelude.{◌≡◌, List, ℕ, ◌+◌, ◌≤◌, length}
use Rattle.numbers.specs.Splice.{splice}

-- b, of at most `most` bytes, is written from `at` on, and `end` is where it ends
pub record Put (most at : ℕ) (b before after : List ℕ) (end : ℕ) : Type 0 where
  pub bytes : after ≡ splice at b before
  pub ends : end ≡ at + length b
  pub small : length b ≤ most
