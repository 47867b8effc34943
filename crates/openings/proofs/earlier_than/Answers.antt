-- `openings::earlier_than` meets its contract: the window's answer is the one that was matched.
use mathlib.Core.Path.{sym, ap, ◌∙◌}
use Rattle.openings.specs.declared.Opening.TheVariants.{At}
use Rattle.openings.specs.Find.{earlier_of}
use Rattle.openings.proofs.earlier_than.Goals as goal

pub returns-in-At : goal.returns-in-At
returns-in-At c = ap At c.first_of.ensures ∙ sym (ap (earlier_of (At _)) c.in-At.is)

pub returns-in-None : goal.returns-in-None
returns-in-None c = sym (ap (earlier_of (At _)) c.in-None.is)

pub returns-in-Refused : goal.returns-in-Refused
returns-in-Refused c = sym (ap (earlier_of (At _)) c.in-Refused.is)
