use native.Mathlib.Omega.{arith}
use Rattle.answers.proofs.PutLaws.{put_both}
use Rattle.entries.proofs.put_both_days.Goals as goal

-- `entries::put_both_days` meets its contract: one piece after the other.
pub returns : goal.returns
returns c =
    let r = put_both {most = 11} c.put_date-third.ensures c.text.ensures (omega arith) (omega arith) in
    let q = put_both {most = 12} c.text-second.ensures r (omega arith) (omega arith) in
    put_both c.put_date-first.ensures q (omega arith) (omega arith)
