use Rattle.lent_display.proofs.put_window.Goals as goal

-- `lent_display::put_window` meets its contract.
pub returns-in-None : goal.returns-in-None
returns-in-None c = rw c.in-None.is (record { puts = c.put_four.ensures.puts; window_fits = c.put_four.ensures.four_fit })

pub returns-in-Some : goal.returns-in-Some
returns-in-Some c = rw c.in-Some.is (record { puts = c.put_four-in-Some.ensures.puts; window_fits = c.put_four-in-Some.ensures.four_fit })
