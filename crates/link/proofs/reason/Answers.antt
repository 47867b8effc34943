-- `link::reason` meets its contract, which is that of `reasons::reason`.
use Rattle.link.proofs.reason.Goals as goal

pub returns : goal.returns
returns c = record { value = c.reason.ensures.value; result_value = c.reason.ensures.result_value }
