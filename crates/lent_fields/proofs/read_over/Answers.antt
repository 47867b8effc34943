use Rattle.std.proofs.Common.{rules}
use native.Mathlib.Omega.{arith}
use Rattle.lent_fields.proofs.ManyLaws.{read_none, read_more, read_whole}
use Rattle.lent_fields.proofs.read_over.Goals as goal

pub loop-i-init : goal.loop-i-init
loop-i-init g c = read_none c.args.blank

pub loop-i-preserved : goal.loop-i-preserved
loop-i-preserved g c = read_more c.loop-i.invariant (omega arith) (search rules)

pub returns : goal.returns
returns g c = read_whole c.loop-i.invariant (omega arith)
