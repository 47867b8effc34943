use Rattle.lent_records.proofs.get_five.Goals as goal

-- `lent_records::get_five` meets its contract, field by field.
pub returns : goal.returns
returns c =
    let b = c.before in
    let a = b.before in
    let small = a.before in
    λ i. record {
      tag = small.read1.ensures i;
      small = small.read1-2.ensures i;
      a = a.read8.ensures i;
      b = b.read8-2.ensures i;
      c = c.read8-3.ensures i;
    }
