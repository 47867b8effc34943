use mathlib.Core.Path.{refl}
use Rattle.player.specs.House.{printed_line}
use Rattle.interpreter.proofs.play_malformed.Goals as goal

-- `interpreter::play_malformed` meets its contract: "bad" is printed.
pub returns : goal.returns
unfolding printed_line
returns c = record { stands = refl; fresh = refl; put = c.put_printed-used.ensures }
