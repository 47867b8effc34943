use Rattle.ledger.proofs.ViewLaws.{permitted_by}
use Rattle.ledger.proofs.permitted.Goals as goal

-- `ledger::permitted` meets its contract: the book's view permits the line.
pub returns : goal.returns
returns c = permitted_by _ _ c.asked_of.ensures c.view_before.ensures c.allowed_by.ensures
