use mathlib.Core.Path.{◌≡◌}
use mathlib.Core.List.{List}
use Prim.Native.Nat.{ℕ, ◌+◌, ◌≤◌}
use lib.ListN.{length, take}
use Rattle.record.specs.Text.{hex_text}
use Rattle.answers.specs.Put.{Put}
use Rattle.keeping.proofs.put_digits.Given as goal

-- the digits of the first bytes, and the room for the others
pub record DigitsSoFar (at : ℕ) (cue start out : List ℕ) (end i : ℕ) : Type 0 where
  pub put : Put (i + i) at (hex_text (take i cue)) start out end
  pub few : i ≤ 24
  pub same : length out ≡ length start

abbrev pub invariant-loop-b : goal.invariant-loop-b
invariant-loop-b l = DigitsSoFar l.at l.cue l.initial.out l.out l.end l.b-index
