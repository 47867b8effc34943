use lib.ListN.{length-set}
use native.Mathlib.Omega.{arith}
use Rattle.lent_display.proofs.CallLaws.{four-set}
use borrow.Author.Rules.{rules}
use Rattle.lent_display.proofs.put_numbers.Goals as goal

-- `lent_display::put_numbers` meets its contract.
pub bounds-lost-1 : goal.bounds-lost-1
bounds-lost-1 c = simp length-set (omega arith)

pub bounds-lost-2 : goal.bounds-lost-2
bounds-lost-2 c = simp length-set (omega arith)

pub returns : goal.returns
returns c = four-set c.args.lost.now _ _ _ _ (search rules)
