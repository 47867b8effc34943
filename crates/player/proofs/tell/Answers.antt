use mathlib.Core.Path.{refl, ap, ◌∙◌}
use mir.Syntax.{w16}
use mir.Val.{SFits}
use mir.Facts.{to_z-of_z}
use Prim.Native.Nat.{ℕ}
use lib.IntN.{ℤ}
use Rattle.answers.specs.declared.Shown.TheVariants.{Got, Late}
use Rattle.player.specs.Play.{Printed, Shows}
use Rattle.player.specs.Promise.{printed_for, messages_for}
use Rattle.player.proofs.PlayLaws.{tells, tells-out, out-there}
use borrow.Author.Rules.{rules}
use Rattle.player.proofs.tell.Goals as goal

-- `player::tell` meets its contract: the answer is the one that was matched.
pub put_out-requires : goal.put_out-requires
put_out-requires c = record { n_in_bounds = out-there _ c.in-Out.is c.requires.in_output; shelf = c.requires.shelf }

pub returns-in-Refused : goal.returns-in-Refused
unfolding printed_for messages_for
returns-in-Refused c = tells c.in-Refused.is refl (λ _. refl)

pub returns-in-Out : goal.returns-in-Out
returns-in-Out c = tells-out c.in-Out.is c.put_out.ensures

pub returns-in-Got : goal.returns-in-Got
unfolding printed_for messages_for
returns-in-Got c =
    let fits : SFits w16 c.focus_in.result = search rules in
    tells c.in-Got.is (ap (λ (z : ℤ). Shows (Got c.in-Got.name z)) (to_z-of_z fits ∙ c.focus_in.ensures)) (λ _. refl)

pub returns-in-Done : goal.returns-in-Done
unfolding printed_for messages_for
returns-in-Done c = tells c.in-Done.is refl (λ _. refl)

pub returns-in-Ignored : goal.returns-in-Ignored
unfolding printed_for messages_for
returns-in-Ignored c = tells c.in-Ignored.is (ap (λ s. Shows s) c.ignored_for.ensures) (λ _. refl)

pub returns-in-Nothing : goal.returns-in-Nothing
unfolding printed_for messages_for
returns-in-Nothing c = tells c.in-Nothing.is refl (λ _. refl)

pub returns-in-Clash : goal.returns-in-Clash
unfolding printed_for messages_for
returns-in-Clash c = tells c.in-Clash.is refl (λ _. refl)

pub returns-in-Late : goal.returns-in-Late
unfolding printed_for messages_for
returns-in-Late c =
    let fits : SFits w16 c.focus_in-in-Late.result = search rules in
    tells c.in-Late.is (ap (λ (z : ℤ). Shows (Late c.in-Late.name z)) (to_z-of_z fits ∙ c.focus_in-in-Late.ensures)) (λ _. refl)

pub returns-in-Exhausted : goal.returns-in-Exhausted
unfolding printed_for messages_for
returns-in-Exhausted c = tells c.in-Exhausted.is refl (λ _. refl)
