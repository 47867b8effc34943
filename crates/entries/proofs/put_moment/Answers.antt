-- `entries::put_moment` meets its contract: one piece after the other.
use native.Mathlib.Omega.{arith}
use Rattle.answers.proofs.PutLaws.{put_both}
use Rattle.entries.proofs.put_moment.Goals as goal

pub returns : goal.returns
returns c =
    let q = put_both {most = 22} c.text-second.ensures c.put_number_line.ensures (omega arith) (omega arith) in
    put_both c.put_date-first.ensures q (omega arith) (omega arith)
