-- `display_window::taken` meets its contract: the cue is at most 63 above the trail that it lets stand.
use Rattle.display_window.proofs.WindowLaws.{raised-near}
use Rattle.display_window.proofs.taken.Goals as goal

pub received-requires : goal.received-requires
received-requires c = let a = c.args in rw (c.raised.ensures, c.trail_for.ensures) (raised-near a.n.0 a.window)
