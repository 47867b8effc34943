-- `sound::cue_sound` meets its contract: the array has its length, and the rest is the cue test.
use mathlib.Core.Path.{◌≡◌}
use lib.ListN.{length}
use borrow.Author.Tests.{eq-eqb}
use borrow.Author.Rules.{rules}
use Rattle.sound.proofs.cue_sound.Goals as goal

pub returns : goal.returns
returns c =
    let cue = c.args.cue in
    let long : length cue ≡ 24 = search rules in
    rw (eq-eqb (length cue) 24 long) c.cue_in.ensures
