use native.Mathlib.Omega.{arith}
use Rattle.lent_fields.proofs.ByteLaws.{value8}
use Rattle.lent_fields.proofs.read8.Goals as goal

-- `lent_fields::read8` meets its contract: eight bytes are twice four.
pub returns : goal.returns
returns c =
    let a = c.args in
    value8 a.s.now a.at _ _ (omega arith) c.read_be-hi.ensures.number c.read_be-lo.ensures.number
