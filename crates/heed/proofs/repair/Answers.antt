-- `heed::repair` meets its contract: each step is its callee's.
use Rattle.end.specs.Decide.{apply}
use Rattle.heed.proofs.repair.Goals as goal

pub returns : goal.returns
unfolding apply
returns c = rw (c.hush.ensures, c.hold_cue.ensures, c.rise_to-higher.ensures)
