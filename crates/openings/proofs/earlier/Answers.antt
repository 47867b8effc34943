-- `openings::earlier` meets its contract: the answer so far is the one that was matched.
use mathlib.Core.Path.{sym, ap, ◌∙◌}
use Rattle.openings.specs.declared.Opening.{Opening}
use Rattle.openings.specs.Find.{earlier_of}
use Rattle.openings.proofs.earlier.Goals as goal

pub returns-in-At : goal.returns-in-At
returns-in-At c = c.earlier_than.ensures ∙ sym (ap (λ (b : Opening). earlier_of b c.args.c) c.in-At.is)

pub returns-in-Refused : goal.returns-in-Refused
returns-in-Refused c = sym (ap (λ (b : Opening). earlier_of b c.args.c) c.in-Refused.is)
