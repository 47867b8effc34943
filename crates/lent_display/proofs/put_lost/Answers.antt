use Rattle.lent_display.proofs.put_lost.Goals as goal

-- `lent_display::put_lost` meets its contract.
pub returns-in-None : goal.returns-in-None
returns-in-None c = rw c.in-None.is c.put_numbers.ensures

pub returns-in-Some : goal.returns-in-Some
returns-in-Some c = rw c.in-Some.is c.put_numbers-in-Some.ensures
