-- `sound::sound` meets its contract: the sources have their length, and the tests' equations stand side by side.
use mathlib.Core.Path.{◌≡◌}
use lib.ListN.{length}
use borrow.Author.Tests.{eq-eqb}
use Rattle.end.specs.Sound.{sound_of}
use Rattle.sound.proofs.sound.Goals as goal

pub returns : goal.returns
unfolding sound_of
returns c =
    let e = c.args.e in
    let eight : length e.sources ≡ 8 = c.well_formed.0.1.1.1.1.1.1.1.0.1.0.1 in
    rw (eq-eqb (length e.sources) 8 eight, c.params_small.ensures, c.sources_sound.ensures, c.delay_in.ensures)
