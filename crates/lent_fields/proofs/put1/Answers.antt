use native.Mathlib.Omega.{arith}
use borrow.Author.Rules.{rules}
use Rattle.layout.proofs.PutLaws.{put-number}
use Rattle.lent_fields.proofs.put1.Goals as goal

-- `lent_fields::put1` meets its contract: the bytes, and the range that the type has.
pub returns : goal.returns
returns c = record { puts = put-number _ (omega arith) c.put_be.ensures; fits = search rules }
