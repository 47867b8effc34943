use mathlib.Core.Path.{ap, ◌∙◌}
use Rattle.openings.specs.declared.Opening.{Opening}
use Rattle.openings.specs.Pass.{pass_of}
use Rattle.openings.proofs.PassLaws.{pass_finds}
use Rattle.openings.proofs.find.Goals as goal

pub loop-w-init : goal.loop-w-init
loop-w-init c = ap (λ (b : Opening). pass_of c.args.m b c.args.ws.now) c.asked-so_far.ensures ∙ pass_finds c.args.ws.now c.args.m
