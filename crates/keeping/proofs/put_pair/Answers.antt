use mathlib.Core.Path.{◌≡◌}
use mathlib.Core.List.{[], ◌∷◌}
use Prim.Native.Nat.{ℕ}
use Rattle.record.specs.Text.{hex_text}
use Rattle.answers.proofs.PutLaws.{put_same}
use Rattle.keeping.proofs.put_pair.Goals as goal

-- `keeping::put_pair` meets its contract: the two digits of a byte.
two : {a b c d : ℕ} → a ≡ c → b ≡ d → (a ∷ b ∷ []) ≡ (c ∷ d ∷ [])
two p q = λ i. p i ∷ q i ∷ []

pub returns : goal.returns
unfolding hex_text
returns c =
    put_same c.text.ensures (two c.hex_digit.ensures c.hex_digit-2.ensures)
