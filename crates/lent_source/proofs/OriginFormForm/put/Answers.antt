use Rattle.lent_source.proofs.OriginFormForm.put.Goals as goal

-- `OriginForm::put` meets its contract.
pub returns-in-None : goal.returns-in-None
returns-in-None c = rw c.in-None.is (record { puts = c.put_one.ensures.puts; fits = c.put_one.ensures.one_fits })

pub returns-in-Some : goal.returns-in-Some
returns-in-Some c = rw c.in-Some.is (record { puts = c.put_one-in-Some.ensures.puts; fits = c.put_one-in-Some.ensures.one_fits })
