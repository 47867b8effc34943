use Rattle.lent_display.proofs.DisplayLaws.{not-long, display_tested}
use native.Mathlib.Omega.{arith}
use Rattle.lent_display.proofs.is_display.Goals as goal

-- `lent_display::is_display` meets its contract.
pub returns-then-s-ne-WIDTH : goal.returns-then-s-ne-WIDTH
returns-then-s-ne-WIDTH c = not-long c.args.s.now c.if-s-ne-WIDTH.true

pub returns : goal.returns
returns c =
    display_tested c.args.s.now _ _ (omega arith) c.read2-mark.ensures c.is_window.ensures
