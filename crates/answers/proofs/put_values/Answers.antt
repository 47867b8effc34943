use native.Mathlib.Omega.{arith}
use Rattle.answers.proofs.PutLaws.{put_both, put_same}
use borrow.Author.Rules.{rules}
use Rattle.answers.proofs.put_values.Goals as goal

-- `answers::put_values` meets its contract: two numbers with a space each, and then the focus.
pub returns : goal.returns
returns c =
    let p = put_both {most = 12} c.spaced-second.ensures c.integer.ensures (omega arith) (omega arith) in
    put_same (put_both c.spaced-first.ensures p (omega arith) (omega arith)) (search rules)
