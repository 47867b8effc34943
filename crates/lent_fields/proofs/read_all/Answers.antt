use Rattle.std.proofs.Common.{rules}
use native.Mathlib.Omega.{arith}
use Rattle.lent_fields.proofs.ManyLaws.{made-many, read_first, read_more, read_whole}
use Rattle.lent_fields.proofs.read_all.Goals as goal

pub returns-then-this-eq0 : goal.returns-then-this-eq0
returns-then-this-eq0 g c = made-many g.F.Form.from g.F.Form.WIDTH c.args.from c.args.s.now (λ i y q k. search rules) _ _ c.from_fn.ensures.items

pub loop-n-init : goal.loop-n-init
loop-n-init g c = read_first (search rules) (omega arith)

pub loop-n-preserved : goal.loop-n-preserved
loop-n-preserved g c = read_more c.loop-n.invariant (omega arith) (search rules)

pub returns : goal.returns
returns g c = read_whole c.loop-n.invariant (omega arith)
