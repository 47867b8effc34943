use mathlib.Core.Path.{refl}
use native.Mathlib.Omega.{arith}
use Rattle.message.specs.Message.{ANNC}
use Rattle.message.proofs.QuestionLaws.{width_fits}
use Rattle.compose.proofs.announce_message.Goals as goal

-- `compose::announce_message` meets its contract: two names, and a cue number of at most the widest bytes.
pub returns : goal.returns
returns c =
    let w = width_fits ANNC in record { result_value = rw (c.own_entry.ensures, c.own_entry-2.ensures) refl; small = record { names = omega arith; cues = omega arith; reports = omega arith; echoes = omega arith; size = omega (arith, w) } }
