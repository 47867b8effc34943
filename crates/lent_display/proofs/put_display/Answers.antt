use Rattle.lent_display.proofs.DisplayLaws.{written}
use native.Mathlib.Omega.{arith}
use Rattle.lent_display.proofs.put_display.Goals as goal

-- `lent_display::put_display` meets its contract.
pub returns : goal.returns
returns c =
    written _ _ _ _ (omega arith) c.put_head.ensures.puts c.put_head.ensures.head_fits c.put_window.ensures.puts c.put_window.ensures.window_fits
