-- `transmit::fire` meets its contract: the earliest wait is chosen, and goes out.
use mathlib.Core.Path.{refl, sym, subst, ◌∙◌}
use Rattle.end.specs.Answer.{answer_of, buffer_of}
use Rattle.end.specs.Fire.{fired}
use Rattle.transmit.proofs.FireLaws.{Hosted, hosted}
use Rattle.transmit.proofs.fire.Goals as goal

pub returns-in_default : goal.returns-in_default
unfolding fired answer_of buffer_of
returns-in_default c = rw (sym c.earliest_wait.ensures ∙ c.in_default.is) (record { value = refl; out_after = refl })

pub fire_wait-requires : goal.fire_wait-requires
fire_wait-requires c = record { firing = c.requires; source = subst Hosted (sym c.earliest_wait.ensures ∙ c.in-Some.is) (hosted c.args.e.now) }

pub returns : goal.returns
returns c = rw (sym c.earliest_wait.ensures ∙ c.in-Some.is) (record { value = c.fire_wait.ensures.value; out_after = c.fire_wait.ensures.out_after })
