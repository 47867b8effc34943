use mathlib.Core.Path.{refl}
use Rattle.end.specs.Sound.{all_below}
use Rattle.end.proofs.SoundLaws.{all_more}
use Rattle.sound.proofs.sources_sound.Goals as goal

pub loop-h-init : goal.loop-h-init
unfolding all_below
loop-h-init c = refl

pub loop-h-preserved : goal.loop-h-preserved
loop-h-preserved c = rw (c.loop-h.invariant, c.source_sound-ok.ensures, all_more)
