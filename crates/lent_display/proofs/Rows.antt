-- The rows of specs/Rows.antt, by computing.
use mathlib.Core.Path.{refl}
use Rattle.numbers.specs.Number.{digits}
use Rattle.lent_display.specs.Bytes.{four_bytes, head_bytes, display_bytes}
use Rattle.lent_display.specs.Rows.{RowsHold}

pub rows-hold : RowsHold
unfolding digits four_bytes head_bytes display_bytes
rows-hold = record { opened-row = refl; started-row = refl }
