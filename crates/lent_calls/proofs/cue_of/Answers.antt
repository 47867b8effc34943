use Rattle.lent_calls.proofs.CallLaws.{cue-taken, cue-out}
use native.Mathlib.Omega.{arith}
use Rattle.lent_calls.proofs.cue_of.Goals as goal

-- `lent_calls::cue_of` meets its contract.
pub returns-then-b-eq24 : goal.returns-then-b-eq24
returns-then-b-eq24 c = cue-taken _ _ (omega arith) c.put_bytes.ensures

pub returns-else-b-eq24 : goal.returns-else-b-eq24
returns-else-b-eq24 c = cue-out c.args.b.now c.if-b-eq24.false
