-- `candidates::may_fetch` meets its contract: the source is the name's, where that is a host.
use mathlib.Core.Path.{◌∙◌}
use Rattle.candidates.proofs.MayLaws.{may-is}
use Rattle.candidates.proofs.may_fetch.Goals as goal

pub returns : goal.returns
returns c =
    c.may_on.ensures ∙ may-is _ c.args.name _ c.source_of-from.ensures.value
