use mathlib.Core.Path.{refl}
use native.Mathlib.Omega.{arith}
use Rattle.message.proofs.QuestionLaws.{width_fits}
use Rattle.compose.proofs.about_name.Goals as goal

-- `compose::about_name` meets its contract: one name, at most one cue, and a cue number of at most the widest bytes.
pub returns : goal.returns
returns c =
    let w = width_fits c.args.kind in record { result_value = refl; small = record { names = omega arith; cues = omega arith; reports = omega arith; echoes = omega arith; size = omega (arith, w) } }
