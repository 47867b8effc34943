use mathlib.Core.Path.{ap}
use Rattle.judgement.specs.Record.{printed}
use Rattle.judgement.specs.Pieces.{end_prints}
use Rattle.judgement.proofs.PutLaws.{put_as}
use Rattle.judgement.proofs.finish.Goals as goal

-- `judgement::finish` meets its contract: the judgement is printed.
pub returns : goal.returns
unfolding end_prints
returns c =
    let it = put_as c.put_judgement.ensures (ap printed c.judged.ensures) in
    record { out_after = it.0; value = it.1.0; upper_bound = it.1.1 }
