use Rattle.lent_source.proofs.HeardFormForm.put.Goals as goal

-- `HeardForm::put` meets its contract.
pub returns-in-None : goal.returns-in-None
returns-in-None c = rw c.in-None.is (record { puts = c.put_times.ensures.puts; fits = c.put_times.ensures.times_fit })

pub returns-in-Some : goal.returns-in-Some
returns-in-Some c = rw c.in-Some.is (record { puts = c.put_times-in-Some.ensures.puts; fits = c.put_times-in-Some.ensures.times_fit })
