use mathlib.Core.Path.{◌≡◌}
use Prim.Native.Nat.{ℕ}
use mathlib.Core.Bool.{Bool}
use mathlib.Core.List.{List}
use lib.ListN.{get_or}
use Rattle.message.specs.declared.Host.{Host}
use Rattle.message.specs.Entry.{as_host}
use Rattle.end.specs.declared.Source.{Source}
use Rattle.end.specs.State.{no_source}
use Rattle.end.specs.Sound.{all_below, source_sound}
use Rattle.sound.proofs.sources_sound.Given as goal

-- `sound::sources_sound` meets its contract: after h turns the first h sources are tested.
abbrev pub test_at : Host → ℕ → ℕ → Bool → List Source → ℕ → Bool
test_at me next clock member sources h = source_sound me next clock member (as_host h) (get_or sources h no_source)

abbrev pub invariant-loop-h : goal.invariant-loop-h
invariant-loop-h l = l.ok ≡ all_below (test_at l.me l.next l.clock l.member l.sources) l.h
