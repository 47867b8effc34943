use native.Mathlib.Omega.{arith}
use Rattle.layout.proofs.PutLaws.{puts-next, puts-long}
use Rattle.layout.proofs.put_back.Goals as goal

-- `layout::put_back` meets its contract: two sections, the second at the end of the first.
pub returns : goal.returns
returns c =
    let echoes = c.before.before in
    let reports = echoes.before.before.before.before in
    puts-long (puts-next reports.put_section.ensures echoes.put_section-2.ensures (omega arith)) (omega arith)
