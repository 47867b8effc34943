-- Where a word stands in a line, and bytes that are put into a buffer where there is room for them.
use Rattle.std.specs.Prelude.{◌≡◌, cond, List, ℕ, ◌+◌, ◌-◌, leb, length, take, drop}
use Rattle.numbers.specs.Splice.{splice}

-- the bytes from `from` on and before `to`, as far as the line has them
abbrev pub part : ℕ → ℕ → List ℕ → List ℕ
part from to s = take (to - from) (drop from s)

-- the buffer with the bytes b from `at` on, or as it was where they do not fit
unfoldable pub put_at : ℕ → List ℕ → List ℕ → List ℕ
put_at at b out = cond (leb (at + length b) (length out)) (splice at b out) out

-- where the bytes end, or `at` where they do not fit
unfoldable pub end_at : ℕ → List ℕ → List ℕ → ℕ
end_at at b out = cond (leb (at + length b) (length out)) (at + length b) at

-- what a write promises: the bytes b are put from `at` on where there is room for them, and `end` is where they end
pub record Put (at : ℕ) (b before after : List ℕ) (end : ℕ) : Type 0 where
  pub bytes : after ≡ put_at at b before
  pub ends : end ≡ end_at at b before
