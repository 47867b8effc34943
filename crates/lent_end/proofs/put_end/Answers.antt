use Rattle.lent_end.proofs.StateLaws.{written}
use native.Mathlib.Omega.{arith}
use Rattle.lent_end.proofs.put_end.Goals as goal

-- `lent_end::put_end` meets its contract.
pub returns : goal.returns
returns c =
    written _ _ _ _ _ c.status_number.ensures (omega arith) c.put_head.ensures.puts c.put_head.ensures.head_fits c.put_all.ensures.puts c.put_all.ensures.fit
