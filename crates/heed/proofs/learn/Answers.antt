-- `heed::learn` meets its contract: each step is its callee's, and a rise leaves the distance as it was.
use native.Mathlib.Omega.{arith}
use Rattle.end.specs.Decide.{number}
use Rattle.heed.proofs.Rises.{risen_ranges}
use Rattle.heed.proofs.learn.Goals as goal

pub set_round-requires : goal.set_round-requires
set_round-requires c =
    let a = c.args in
    let ranges = risen_ranges a.t a.draws.now (number a.w) a.s c.rise_to-higher.result c.rise_to-higher.ensures c.requires.ranges in record { ranges = ranges; numbered = c.requires.numbered; le_k = (omega arith, omega arith) }

pub returns : goal.returns
returns c = rw (c.set_round.ensures, c.rise_to-higher.ensures)
