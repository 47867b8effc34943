use mathlib.Core.Path.{◌≡◌}
use Rattle.end.specs.Sound.{names_sound}
use Rattle.sound.proofs.Owner.names_sound.Given as goal

-- `sound::Owner::names_sound` meets its contract: after i turns the first i numbers from first on are tested.
abbrev pub invariant-loop-i : goal.invariant-loop-i
invariant-loop-i l = l.ok ≡ names_sound l.self.me l.self.source l.self.pair l.self.span l.names l.i
