use mathlib.Core.Path.{refl}
use Rattle.numbers.specs.Bits.{bit}
use Rattle.numbers.proofs.bits.has.Goals as goal

pub returns : goal.returns
unfolding bit
returns c = refl
