use Prim.Native.Nat.{ℕ, ◌≤◌, ◌<◌}
use mathlib.Core.Path.{◌≡◌, sym, ◌∙◌}
use lib.Dec.{ltb}
use borrow.Author.Tests.{le-ltb}
use Rattle.numbers.specs.Bits.{bit}
use Rattle.numbers.proofs.BitLaws.{bit-above}
use Rattle.sound.proofs.is_tried.Goals as goal

-- `sound::is_tried` meets its contract: eight digits hold no host from 8 on.
none_above : (set h : ℕ) → set < 256 → 8 ≤ h → ltb h 8 ≡ bit set h
none_above set h l k = le-ltb h 8 k ∙ sym (bit-above set h 8 l k)

pub returns-else-h-lt8 : goal.returns-else-h-lt8
returns-else-h-lt8 c = none_above _ _ c.ranges.tried.fits c.if-h-lt8.false
