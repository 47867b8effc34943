-- What each function promises that writes a part of a message: its bytes and how long they are, from which the next part's place follows.
use Rattle.std.specs.Prelude.{◌≡◌, ℕ, ◌+◌, ◌≤◌, List, length}
use Rattle.numbers.specs.Splice.{splice}

-- `last` is the buffer `start`, which has room for them, with the n bytes b from `at` on
pub record Puts (at n : ℕ) (b start last : List ℕ) : Type 0 where
  pub long : length b ≡ n
  pub room : at + n ≤ length start
  pub written : last ≡ splice at b start
