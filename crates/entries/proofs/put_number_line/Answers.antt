-- `entries::put_number_line` meets its contract: the number and the line feed.
use native.Mathlib.Omega.{arith}
use Rattle.answers.proofs.PutLaws.{put_both}
use Rattle.entries.proofs.put_number_line.Goals as goal

pub returns : goal.returns
returns c =
    put_both c.number-end.ensures c.text.ensures (omega arith) (omega arith)
