use mathlib.Core.Path.{sym, ap, ◌∙◌}
use mathlib.Core.List.{◌∷◌}
use Prim.Native.Nat.{ℕ}
use lib.IntN.{ℤ, pos}
use lib.Signed.{lt_z}
use mir.Facts.{to_z-of_z}
use Rattle.std.specs.Prelude.{unsigned_abs}
use Rattle.decimal.specs.Decimal.{decimal}
use Rattle.decimal.proofs.DecimalLaws.{below_zero, from_zero}
use Rattle.decimal.proofs.RoomLaws.{put_same}
use Rattle.decimal.proofs.put_i16.Goals as goal

-- `decimal::put_i16` meets its contract: the sign and then the number's size.
pub returns-then-z-lt0 : goal.returns-then-z-lt0
returns-then-z-lt0 c =
    let e = c.from-size.ensures ∙ c.unsigned_abs.ensures.value ∙ ap unsigned_abs (to_z-of_z c.ranges.z) in
    put_same c.put_negative.ensures (ap (λ (n : ℕ). 45 ∷ decimal n) e ∙ below_zero c.args.z (ap (λ (x : ℤ). lt_z x (pos 0)) (sym (to_z-of_z c.ranges.z)) ∙ c.if-z-lt0.true))

pub returns-else-z-lt0 : goal.returns-else-z-lt0
returns-else-z-lt0 c =
    let e = c.from-size.ensures ∙ c.unsigned_abs.ensures.value ∙ ap unsigned_abs (to_z-of_z c.ranges.z) in
    put_same c.put_u64.ensures (ap decimal e ∙ from_zero c.args.z (ap (λ (x : ℤ). lt_z x (pos 0)) (sym (to_z-of_z c.ranges.z)) ∙ c.if-z-lt0.false))
