use mathlib.Core.Path.{◌≡◌, sym, ◌∙◌}
use mathlib.Core.Bool.{true, false}
use native.Mathlib.Omega.{arith}
use Rattle.end.specs.declared.End.{End}
use Rattle.end.specs.Sound.{sound_of}
use Rattle.end.proofs.SoundLaws.{sound-end}
use Rattle.state.proofs.Settled.{settled}
use Rattle.end_due.specs.Due.{due_of}
use Rattle.link.proofs.next_due.Goals as goal

-- `link::next_due` meets its contract: a sound end is settled, and another has no due time.
pub next_due-requires : goal.next_due-requires
next_due-requires c =
    let e : End = c.args.e in
    let good : sound_of e ≡ true = sym c.sound.ensures ∙ c.if-sound.true in
    settled e e.clock good (sound-end e good).clock (omega arith)

pub returns-then-sound : goal.returns-then-sound
unfolding due_of
returns-then-sound c =
    let good : sound_of c.args.e ≡ true = sym c.sound.ensures ∙ c.if-sound.true in
    rw good c.next_due.ensures

pub returns : goal.returns
unfolding due_of
returns c =
    let bad : sound_of c.args.e ≡ false = sym c.sound.ensures ∙ c.if-sound.false in
    rw bad
