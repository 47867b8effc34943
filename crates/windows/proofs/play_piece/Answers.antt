-- `windows::play_piece` meets its contract: each call takes bytes of the piece, until there are none or the run has stopped.
use Rattle.windows.proofs.PieceLaws.{none-taken, all-taken, more-taken}
use Rattle.windows.proofs.play_piece.Goals as goal

pub loop-at-init : goal.loop-at-init
loop-at-init g c = none-taken _ _

pub loop-at-preserved : goal.loop-at-preserved
loop-at-preserved g c = more-taken c.loop-at.invariant _ _ c.in_ok-fed.ensures.playing_value c.in_ok-fed.ensures.taken_in_bounds

pub returns : goal.returns
returns g c = all-taken c.loop-at.invariant c.loop-at-test.false
