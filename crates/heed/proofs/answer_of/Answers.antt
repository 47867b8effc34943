-- `heed::answer_of` meets its contract: a cue that is new stands in the first output bytes.
use mathlib.Core.Path.{◌≡◌, ◌∙◌}
use mathlib.Core.Logic.{◌⊎◌, inl, inr}
use Rattle.numbers.proofs.SpliceLaws.{splice-start}
use Rattle.end.specs.declared.Decision.{Decision}
use Rattle.end.specs.declared.Decision.TheVariants.{Opens, Takes, Repairs}
use Rattle.end.specs.declared.Moment.{Moment}
use Rattle.end.specs.declared.Record.{Record}
use Rattle.end.specs.declared.Word.{Word}
use Rattle.end.specs.Decide.{effect_of}
use Rattle.end.specs.Answer.{Got, buffer_of}
use Rattle.heed.proofs.answer_of.Goals as goal

got : (t : Moment) (w : Word) (r : Record) (d : Decision) → (d ≡ Opens) ⊎ ((d ≡ Takes) ⊎ (d ≡ Repairs)) → effect_of t w r d ≡ Got w.name w.cue
unfolding effect_of
got t w r d (inl p) = rw p
got t w r d (inr (inl p)) = rw p
got t w r d (inr (inr p)) = rw p

pub returns-in-Opens-clause-out_after : goal.returns-in-Opens-clause-out_after
unfolding buffer_of
returns-in-Opens-clause-out_after c = rw (got c.args.t c.args.w c.args.r c.args.d c.in-Opens.is) (c.put_bytes.ensures ∙ splice-start _ _)
