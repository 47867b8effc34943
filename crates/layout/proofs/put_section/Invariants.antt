use Prim.Native.Nat.{◌+◌}
use Rattle.layout.proofs.PutLaws.{PutSoFar}
use Rattle.layout.proofs.put_section.Given as goal

-- `layout::put_section` meets its contract: the count, and after i turns the first i entries.
abbrev pub invariant-loop-i : goal.invariant-loop-i
invariant-loop-i g l = PutSoFar (g.T.Entry.bytes l.w) (g.T.Entry.width l.w) l.entries l.n (l.at + 1) l.initial.out l.out l.i
