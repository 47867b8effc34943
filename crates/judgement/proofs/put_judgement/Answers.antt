use Rattle.judgement.specs.Record.{printed}
use Rattle.judgement.proofs.put_judgement.Goals as goal

-- `judgement::put_judgement` meets its contract: by the judgement.
pub returns-in-Allowed : goal.returns-in-Allowed
unfolding printed
returns-in-Allowed c =
    rw c.in-Allowed.is c.put_text.ensures

pub returns-in-BrokenAt : goal.returns-in-BrokenAt
unfolding printed
returns-in-BrokenAt c =
    rw c.in-BrokenAt.is c.put_number.ensures

pub returns-in-Refused : goal.returns-in-Refused
returns-in-Refused c =
    rw c.in-Refused.is c.put_refused.ensures
