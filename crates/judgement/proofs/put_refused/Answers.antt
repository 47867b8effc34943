use Rattle.judgement.specs.Record.{printed}
use Rattle.judgement.proofs.PutLaws.{both_put}
use native.Mathlib.Omega.{arith}
use Rattle.judgement.proofs.put_refused.Goals as goal

-- `judgement::put_refused` meets its contract: the word and the number.
pub returns : goal.returns
unfolding printed
returns c =
    both_put c.put_text-end.ensures c.put_number.ensures (omega arith)
