-- First and last of a span that was matched: what the tests of a number against them come to.
use mathlib.Core.Path.{◌≡◌}
use Prim.Native.Nat.{ℕ}
use mathlib.Core.Bool.{◌&&◌}
use lib.Dec.{ltb, leb}
use Rattle.message.specs.declared.CueNumber.{CueNumber}
use Rattle.end.specs.Parts.{Span, Open}
use Rattle.end.specs.Records.{within, is_below, is_above}

module _ {x : Span} {first last : CueNumber} (n : ℕ) (e : x ≡ Open first last) where
  pub open_within : leb first.0 n && leb n last.0 ≡ within x n
  open_within = rw e

  pub open_below : ltb n first.0 ≡ is_below x n
  open_below = rw e

  pub open_above : ltb last.0 n ≡ is_above x n
  open_above = rw e
