use Rattle.lent_lens.proofs.opening_number.Goals as goal

-- `lent_lens::opening_number` meets its contract.
pub returns-in-At : goal.returns-in-At
returns-in-At c = rw c.in-At.is c.at_number.ensures
