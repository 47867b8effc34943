use Rattle.lent_answer.proofs.number_of.Goals as goal

-- `lent_answer::number_of` meets its contract, case by case.
pub returns-in-Out : goal.returns-in-Out
returns-in-Out c = rw c.in-Out.is c.out_number.ensures

pub returns-in-Got : goal.returns-in-Got
returns-in-Got c = rw c.in-Got.is c.named.ensures

pub returns-in-Clash : goal.returns-in-Clash
returns-in-Clash c = rw c.in-Clash.is c.named-in-Clash.ensures

pub returns-in-Late : goal.returns-in-Late
returns-in-Late c = rw c.in-Late.is c.named-in-Late.ensures
