use Rattle.lent_end.proofs.StateLaws.{not-long, state-tested}
use native.Mathlib.Omega.{arith}
use Rattle.lent_end.proofs.is_state.Goals as goal

-- `lent_end::is_state` meets its contract.
pub returns-then-s-ne-STATE : goal.returns-then-s-ne-STATE
returns-then-s-ne-STATE c = not-long c.args.s.now c.if-s-ne-STATE.true

pub returns : goal.returns
returns c =
    state-tested c.args.s.now _ _ _ (omega arith) c.read2.ensures c.read1.ensures c.test_all-sources.ensures
