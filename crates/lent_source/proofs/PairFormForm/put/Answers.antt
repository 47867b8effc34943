use Rattle.lent_source.proofs.PairFormForm.put.Goals as goal

-- `PairForm::put` meets its contract.
pub returns-in-None : goal.returns-in-None
returns-in-None c = rw c.in-None.is (record { puts = c.put_four.ensures.puts; fits = c.put_four.ensures.four_fit })

pub returns-in-Some : goal.returns-in-Some
returns-in-Some c = rw c.in-Some.is (record { puts = c.put_four-in-Some.ensures.puts; fits = c.put_four-in-Some.ensures.four_fit })
