use Rattle.interpreter.proofs.PlayLaws.{called, stops-bad}
use Rattle.interpreter.proofs.play_call.Goals as goal

-- `interpreter::play_call` meets its contract: the end is the one that the call names, and it alone changes.
pub returns : goal.returns
returns c =
    called c.args.pair c.args.call
    c.chosen-e.ensures c.play-played.ensures c.put_printed-used.ensures (stops-bad _ _ c.is_none-stopped.ensures) c.chosen.ensures c.chosen-2.ensures
