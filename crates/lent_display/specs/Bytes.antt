-- A display as 25 bytes: 0 mark CD, 1 layout 01, 2 own, 3 sender, 4 clock 8, 12 tag (0 unstarted, else 1), 13 trail 2, 15 lead 2, 17 set 8. Numbers
-- are big-endian; with tag 0 the rest is 0, so that each display has one form.
use Rattle.std.specs.Prelude.{◌≡◌, ℕ, ◌+◌, Bool, true, cond, ◌&&◌, List, ◌++◌, length, eqb}
use Rattle.numbers.specs.Number.{digits}
use Rattle.message.specs.Entry.{as_host, as_number}
use Rattle.display_window.specs.Parts.{Seen, Unstarted, Started, started}
use Rattle.display.specs.declared.Display.{Display}
use Rattle.lent_fields.specs.Fields.{number, Two, Below, cat_bytes, BothFit, four, is_option}

-- ---- the window: tag, trail, lead, set
abbrev pub Four : Type 0
Four = Two (Two (Two ℕ ℕ) ℕ) ℕ

unfoldable pub four_bytes : Four → List ℕ
four_bytes x = cat_bytes (cat_bytes (cat_bytes (digits 1) (digits 2)) (digits 2)) (digits 8) x

abbrev pub FourFit : Four → Type 0
FourFit x = BothFit (BothFit (BothFit (Below 1) (Below 2)) (Below 2)) (Below 8) x

abbrev pub window_to : Seen → Four
window_to Unstarted = four 0 0 0 0
window_to (Started w) = four 1 w.trail.0 w.lead.0 w.set

abbrev pub window_of : ℕ → ℕ → ℕ → ℕ → Seen
window_of tag trail lead set = cond (eqb tag 0) Unstarted (started (as_number trail) (as_number lead) set)

abbrev pub is_window : ℕ → ℕ → ℕ → ℕ → Bool
is_window tag trail lead set = is_option tag (eqb trail 0 && eqb lead 0 && eqb set 0)

abbrev pub window_from : List ℕ → ℕ → Seen
window_from s k = window_of (number 1 s k) (number 2 s (k + 1)) (number 2 s (k + 3)) (number 8 s (k + 5))

abbrev pub window_test : List ℕ → ℕ → Bool
window_test s k = is_window (number 1 s k) (number 2 s (k + 1)) (number 2 s (k + 3)) (number 8 s (k + 5))

abbrev pub window_bytes : Seen → List ℕ
window_bytes w = four_bytes (window_to w)

abbrev pub WindowFits : Seen → Type 0
WindowFits w = FourFit (window_to w)

-- ---- the display
abbrev pub display_width : ℕ
display_width = 25

-- CD 01
abbrev pub mark : ℕ
mark = 52481

unfoldable pub head_bytes : ℕ → ℕ → ℕ → List ℕ
head_bytes own sender clock = ((digits 2 mark ++ digits 1 own) ++ digits 1 sender) ++ digits 8 clock

pub record HeadFits (own sender clock : ℕ) : Type 0 where
  pub own-fits : Below 1 own
  pub sender-fits : Below 1 sender
  pub clock-fits : Below 8 clock

unfoldable pub display_bytes : Display → List ℕ
display_bytes d = head_bytes d.own.0 d.sender.0 d.clock ++ window_bytes d.window

-- its numbers fit their bytes, which its type says
pub record DisplayFits (d : Display) : Type 0 where
  pub head-fits : HeadFits d.own.0 d.sender.0 d.clock
  pub window-fits : WindowFits d.window

unfoldable pub display_from : List ℕ → Display
display_from s = record { own = as_host (number 1 s 2); sender = as_host (number 1 s 3); clock = number 8 s 4; window = window_from s 12 }

unfoldable pub is_display : List ℕ → Bool
is_display s = eqb (length s) display_width && (eqb (number 2 s 0) mark && window_test s 12)

-- the bytes are those of the display, and hold it
pub record Holds (s : List ℕ) (d : Display) : Type 0 where
  pub bytes : s ≡ display_bytes d
  pub reads : display_from s ≡ d
  pub tested : is_display s ≡ true
