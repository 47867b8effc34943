use Rattle.layout.proofs.PutLaws.{PutSoFar}
use Rattle.lent_fields.proofs.ByteLaws.{FitSoFar}
use Rattle.lent_fields.proofs.put_all.Given as goal

-- `lent_fields::put_all` meets its contract: after n turns the first n are there.
abbrev pub invariant-loop-n : goal.invariant-loop-n
invariant-loop-n g l = PutSoFar g.F.Form.bytes g.F.Form.WIDTH l.all g.row.N l.from l.initial.s l.s l.n × FitSoFar g.F.Form.Fits l.all g.row.N l.n
