-- `link::moved` meets its contract: the frame, where nothing is read.
use mathlib.Core.List.{[]}
use Rattle.link.proofs.moved.Goals as goal

pub frame-requires : goal.frame-requires
frame-requires c = ([], c.unread-reading.ensures)

pub returns : goal.returns
returns c =
    let it = c.frame.ensures [] c.unread-reading.ensures in
    record { value = it.0; out_after = it.1.0; answer_is = it.1.1 }
