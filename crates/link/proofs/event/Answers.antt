-- `link::event` meets its contract: the frame, with what is read from the bytes.
use Rattle.link.proofs.event.Goals as goal

pub frame-requires : goal.frame-requires
frame-requires c = (_, c.reading_for-reading.ensures)

pub returns : goal.returns
returns c =
    let it = c.frame.ensures _ c.reading_for-reading.ensures in
    record { value = it.0; out_after = it.1.0; answer_is = it.1.1 }
