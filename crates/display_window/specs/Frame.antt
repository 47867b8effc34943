-- What the functions of a window are given and promise, where the definitions of specs/Window.antt do not say it.
use Rattle.std.specs.Prelude.{Option, ℕ, ◌-◌}
use Rattle.display_window.specs.declared.Window.{Window}
use Rattle.display_window.specs.Parts.{Unstarted, Started}

-- how many numbers from trail on a set of 64 bits has, and how far a number stands above trail
abbrev pub places : ℕ
places = 64

abbrev pub above_trail : ℕ → Option Window → ℕ
above_trail n Unstarted = 0
above_trail n (Started w) = n - w.trail.0
