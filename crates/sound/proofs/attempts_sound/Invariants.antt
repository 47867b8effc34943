use mathlib.Core.Path.{◌≡◌}
use Rattle.end.specs.Sound.{attempts_sound}
use Rattle.sound.proofs.attempts_sound.Given as goal

-- `sound::attempts_sound` meets its contract: after i turns the marks of the first i numbers from the lowest on are tested.
abbrev pub invariant-loop-i : goal.invariant-loop-i
invariant-loop-i l = l.ok ≡ attempts_sound l.me l.origin l.attempts l.i
