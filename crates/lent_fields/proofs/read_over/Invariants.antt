use Rattle.lent_fields.proofs.ManyLaws.{ReadSoFar}
use Rattle.lent_fields.proofs.read_over.Given as goal

-- `lent_fields::read_over` meets its contract: before turn i the first i are there, and the other places are blank.
abbrev pub invariant-loop-i : goal.invariant-loop-i
invariant-loop-i g l = ReadSoFar g.F.Form.from g.F.Form.WIDTH g.row.N l.fn.blank l.s l.from l.all l.i
