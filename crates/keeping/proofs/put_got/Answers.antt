use native.Mathlib.Omega.{arith}
use Rattle.answers.proofs.PutLaws.{put_both}
use Rattle.keeping.proofs.put_got.Goals as goal

-- `keeping::put_got` meets its contract: the word, the two hosts, the number and the cue.
pub returns : goal.returns
returns c =
    let p = put_both {most = 63} c.spaced-end.ensures c.put_named.ensures (omega arith) (omega arith) in
    put_both c.text-word.ensures p (omega arith) (omega arith)
