-- What the helpers of the reader and the printer promise. The definitions of `Decimal.antt` do not rest on these.
use Rattle.std.specs.Prelude.{◌≡◌, cond, ◌&&◌, List, [], ◌∷◌, ℕ, ◌+◌, ◌*◌, ◌-◌, ◌^◌, ◌≤◌, ◌<◌, ltb, length, None, Option, Some}
use Rattle.decimal.specs.Decimal.{decimal, is_digit}

-- a number with one digit more after it, below 2^64
abbrev pub with_digit : Option ℕ → ℕ → Option ℕ
with_digit (Some v) b = cond (is_digit b && ltb (v * 10 + (b - 48)) (2 ^ 64)) (Some (v * 10 + (b - 48))) None
with_digit None b = None

-- digits read one by one, after what was read before them
unfoldable pub digits_after : Option ℕ → List ℕ → Option ℕ
digits_after u [] = u
digits_after u (b ∷ s) = digits_after (with_digit u b) s

-- how many digits n, which is below 2^64, is printed with
pub record Width (n w : ℕ) : Type 0 where
  pub digits : w ≡ length (decimal n)
  pub some : 1 ≤ w
  pub few : w ≤ 20

-- b ends at `end` where it is put from `at` on, and there is room for it
pub record Fits (at : ℕ) (b out : List ℕ) (end : ℕ) : Type 0 where
  pub ends : end ≡ at + length b
  pub inside : end ≤ length out
