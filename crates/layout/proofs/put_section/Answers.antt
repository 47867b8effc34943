use mathlib.Core.Path.{refl, ap}
use Prim.Native.Nat.{ℕ, ◌+◌, ◌*◌}
use native.Mathlib.Omega.{arith}
use borrow.Author.Rules.{rules}
use Rattle.layout.proofs.PutLaws.{put-start, entry-put, section-put}
use Rattle.layout.proofs.put_section.Goals as goal

pub loop-i-init : goal.loop-i-init
loop-i-init g c = put-start g.row.N (search rules) c.requires.n_le_places (omega arith)

pub loop-i-preserved : goal.loop-i-preserved
loop-i-preserved g c =
    let a = c.args in
    let here = ap (λ (k : ℕ). a.at + 1 + c.loop-i.i * k) c.width_of.ensures in
    entry-put c.loop-i.invariant c.index-entries-i.result (omega arith) c.put.auto.out here c.put.ensures

pub returns : goal.returns
returns g c = section-put c.loop-i.invariant (omega arith) (omega arith) refl c.put_byte.ensures
