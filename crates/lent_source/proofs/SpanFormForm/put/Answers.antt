use Rattle.lent_source.proofs.SpanFormForm.put.Goals as goal

-- `SpanForm::put` meets its contract.
pub returns-in-None : goal.returns-in-None
returns-in-None c = rw c.in-None.is (record { puts = c.put_three.ensures.puts; fits = c.put_three.ensures.three_fit })

pub returns-in-Some : goal.returns-in-Some
returns-in-Some c = rw c.in-Some.is (record { puts = c.put_three-in-Some.ensures.puts; fits = c.put_three-in-Some.ensures.three_fit })
