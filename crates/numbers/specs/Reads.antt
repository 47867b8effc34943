-- What `read_be` promises of a number in a byte slice.
use Rattle.std.specs.Prelude.{◌≡◌, ℕ, ◌^◌, ◌<◌, List, take, drop}
use Rattle.numbers.specs.Number.{value}

-- r is the number that w bytes of s from `at` on stand for
pub record Reads (s : List ℕ) (at w r : ℕ) : Type 0 where
  pub number : r ≡ value (take w (drop at s))
  pub below : r < 256 ^ w
