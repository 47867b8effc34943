-- Two displays of host 0 that follow host 1, and their bytes: as opened, and after number 70 started it at clock 5.
use Rattle.std.specs.Prelude.{◌≡◌, ℕ, List, [], ◌∷◌, ◌++◌, replicate}
use Rattle.message.specs.Entry.{as_host}
use Rattle.display_window.specs.Window.{start_at}
use Rattle.display.specs.declared.Display.{Display}
use Rattle.display.specs.Display.{fresh, with_clock, with_window}
use Rattle.lent_display.specs.Bytes.{display_bytes}

abbrev pub opened : Display
opened = fresh (as_host 0) (as_host 1)

abbrev pub started : Display
started = with_window (with_clock opened 5) (start_at 70)

-- CD 01 00 01, then 21 zeros
abbrev pub opened_bytes : List ℕ
opened_bytes = 205 ∷ 1 ∷ 0 ∷ 1 ∷ replicate 21 0

-- CD 01 00 01 | 00 00 00 00 00 00 00 05 | 01 | 00 46 | 00 46 | 00 00 00 00 00 00 00 01
abbrev pub started_bytes : List ℕ
started_bytes = (205 ∷ 1 ∷ 0 ∷ 1 ∷ replicate 7 0) ++ (5 ∷ 1 ∷ 0 ∷ 70 ∷ 0 ∷ 70 ∷ replicate 7 0) ++ (1 ∷ [])

pub record RowsHold : Type 0 where
  pub opened-row : display_bytes opened ≡ opened_bytes
  pub started-row : display_bytes started ≡ started_bytes
