use mathlib.Core.Path.{sym}
use Rattle.layout.proofs.put_message.Goals as goal

-- `layout::put_message` meets its contract: the width is that of the message's kind.
pub put_with-requires : goal.put_with-requires
put_with-requires c = record {
  w_le_widest_number = c.number_width-w.ensures.upper_bound;
  small = rw c.number_width-w.ensures.value c.requires.0;
  room_needed_in_bounds = c.requires.1;
}

pub returns : goal.returns
returns c =
    let q = rw c.number_width-w.ensures.value at c.put_with.ensures in record { value = sym q.long; out_after = q.written }
