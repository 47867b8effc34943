use native.Mathlib.Omega.{arith}
use Rattle.reader.proofs.LoadLaws.{cue_there}
use Rattle.reader.proofs.read_cue.Goals as goal

-- `reader::read_cue` meets its contract: none of the bytes, or all 24.
pub returns : goal.returns
returns c =
    let a = c.args in
    cue_there a.n a.at a.s.now _ (omega arith) c.copy_from_slice.ensures.after
