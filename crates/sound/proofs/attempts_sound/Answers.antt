use mathlib.Core.Path.{refl}
use Rattle.end.specs.Sound.{all_below}
use Rattle.end.proofs.SoundLaws.{all_more}
use Rattle.sound.proofs.attempts_sound.Goals as goal

pub loop-i-init : goal.loop-i-init
unfolding all_below
loop-i-init c = refl

pub loop-i-preserved : goal.loop-i-preserved
loop-i-preserved c =
    rw (
      c.loop-i.invariant,
      c.attempt_sound-ok.ensures,
      c.place.ensures,
      c.fetchable-may.ensures,
      c.lowest_of-from.ensures.value,
      all_more,
    )
