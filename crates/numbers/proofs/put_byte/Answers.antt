use Rattle.numbers.proofs.SpliceLaws.{splice-one}
use Rattle.numbers.proofs.put_byte.Goals as goal

-- `numbers::put_byte` meets its contract: one store is a splice of one byte.
pub returns : goal.returns
returns c =
    let a = c.args in
    splice-one a.at a.byte a.out.now c.requires
