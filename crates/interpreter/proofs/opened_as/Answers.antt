use Rattle.interpreter.proofs.opened_as.Goals as goal

-- `interpreter::opened_as` meets its contract: both ends are fresh, and there is no message.
pub returns : goal.returns
returns c = rw (c.fresh-zero.ensures, c.fresh-one.ensures, c.new.ensures)
