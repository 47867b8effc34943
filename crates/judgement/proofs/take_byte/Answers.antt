use Rattle.std.proofs.Common.{◌≡◌, length, rules}
use borrow.Author.Tests.{eq-eqb, ne_eqb}
use Rattle.judgement.specs.Pieces.{after_byte}
use Rattle.judgement.proofs.take_byte.Goals as goal

-- `judgement::take_byte` meets its contract: a line feed ends the line, and any other byte is one more of it.
pub returns-then-b-eq10 : goal.returns-then-b-eq10
unfolding after_byte
returns-then-b-eq10 c = rw (eq-eqb c.args.b 10 c.if-b-eq10.true, c.add.ensures, c.meaning-line.ensures)

pub returns-else-b-eq10 : goal.returns-else-b-eq10
unfolding after_byte
returns-else-b-eq10 c =
    let size : length c.args.kept.now.line ≡ 63 = search rules in
    rw (ne_eqb c.args.b 10 c.if-b-eq10.false, c.longer-kept.ensures, size)
