-- `timetable::longer` meets its contract: one byte more.
use mathlib.Core.Path.{ap}
use mathlib.Core.Bool.{false}
use mathlib.Core.List.{List}
use Prim.Native.Nat.{ℕ}
use lib.ListN.{take}
use native.Mathlib.Omega.{arith}
use Rattle.timetable.proofs.PlayLaws.{longer_line}
use borrow.Author.Rules.{rules}
use Rattle.timetable.proofs.longer.Goals as goal

pub returns : goal.returns
returns c =
    let a = c.args.p in
    ap (λ (line : List ℕ). record { list = take a.table.count a.table.places; line = line; stopped = false })
    (longer_line a.line a.len _ (search rules) (omega arith))
