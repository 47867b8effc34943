-- `entries::put_refused` meets its contract: the word and the number.
use native.Mathlib.Omega.{arith}
use Rattle.answers.proofs.PutLaws.{put_both}
use Rattle.entries.specs.Print.{refused_line}
use Rattle.entries.proofs.put_refused.Goals as goal

pub returns : goal.returns
unfolding refused_line
returns c =
    put_both c.text-end.ensures c.put_number_line.ensures (omega arith) (omega arith)
