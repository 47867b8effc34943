use mathlib.Core.Path.{ap, ◌∙◌}
use mathlib.Core.List.{List}
use Prim.Native.Nat.{ℕ, suc}
use native.Mathlib.Omega.{arith}
use lib.ListN.{length, set}
use Rattle.store.specs.Store.{first_messages}
use Rattle.store.proofs.StoreLaws.{one_more}
use Rattle.store.proofs.keep.Goals as goal

-- `store::keep` meets its contract: the bytes and the length are one message more.
pub returns : goal.returns
returns c =
    let p = c.before.before in
    let a = p.args in
    let b = a.message.now in
    ap (λ (s : List ℕ). first_messages s (set a.lengths.now a.k (length b)) (suc a.k)) p.put_bytes.ensures
    ∙ one_more a.store.now a.lengths.now b a.k (omega arith) (omega arith) (omega arith)
