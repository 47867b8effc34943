use mathlib.Core.Path.{refl}
use Rattle.std.proofs.Common.{rules}
use native.Mathlib.Omega.{arith}
use Rattle.message.proofs.SectionLaws.{none}
use Rattle.layout.proofs.PutLaws.{put-start, entry-put}
use Rattle.lent_fields.proofs.ByteLaws.{fit_next}
use Rattle.lent_fields.proofs.put_all.Goals as goal

pub loop-n-init : goal.loop-n-init
loop-n-init g c = (put-start g.row.N (search rules) (omega arith) (omega arith), record { long = search rules; so_far = none })

pub loop-n-preserved : goal.loop-n-preserved
loop-n-preserved g c =
    let i = c.loop-n.invariant in
    let x = c.index-all-n.result in
    (entry-put i.0 x (omega arith) (search rules) refl (search rules), fit_next i.1 x (omega arith) (search rules))
