use Rattle.lent_fields.proofs.ManyLaws.{ReadSoFar}
use Rattle.lent_fields.proofs.read_all.Given as goal

-- `lent_fields::read_all` meets its contract: before turn n the first n are there, and the other places have the first one.
abbrev pub invariant-loop-n : goal.invariant-loop-n
invariant-loop-n g l = ReadSoFar g.F.Form.from g.F.Form.WIDTH g.row.N (g.F.Form.from l.s l.from) l.s l.from l.all l.n
