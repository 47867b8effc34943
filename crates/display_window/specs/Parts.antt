-- The words of the page for a display's window, and for the span of what it lost.
use Rattle.std.specs.Prelude.{ℕ, Option, Some, None}
use Rattle.message.specs.declared.CueNumber.{CueNumber}
use Rattle.display_window.specs.declared.Window.{Window}
use Rattle.display_window.specs.declared.Span.{Span}

-- what a display knows of its sender: nothing before the sender's first DATA, and from then on a window
abbrev pub Seen : Type 0
Seen = Option Window

pattern abbrev pub Unstarted : Option Window
Unstarted = None

pattern abbrev pub Started : Window → Option Window
Started w = Some w

abbrev pub started : CueNumber → CueNumber → ℕ → Option Window
started trail lead set = Some (record { trail = trail; lead = lead; set = set })

-- no number above the old lead was lost, and those from the first to the last
pattern abbrev pub NoneAbove : Option Span
NoneAbove = None

pattern abbrev pub Above : Span → Option Span
Above s = Some s

abbrev pub between : CueNumber → CueNumber → Option Span
between first last = Some (record { first = first; last = last })
