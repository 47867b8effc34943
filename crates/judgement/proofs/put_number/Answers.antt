-- `judgement::put_number` meets its contract: the number, of at most twenty digits, and the line feed.
use Prim.Native.Nat.{◌+◌, ◌≤◌}
use lib.ListN.{length}
use Rattle.decimal.specs.Decimal.{decimal}
use Rattle.decimal.proofs.DecimalLaws.{length_u64}
use Rattle.judgement.proofs.PutLaws.{number_put, both_put, put-size}
use native.Mathlib.Omega.{arith}
use Rattle.judgement.proofs.put_number.Goals as goal

pub put_text-requires : goal.put_text-requires
put_text-requires c =
    let room : c.args.at + (length (decimal c.args.n) + 1) ≤ length c.args.out.now = omega (arith, length_u64 c.args.n c.ranges.n.fits, c.requires) in
    let p = number_put c.put_u64-end.ensures (omega (arith, room)) in
    omega (arith, p.ends, put-size p (omega (arith, room)), room)

pub returns : goal.returns
returns c =
    let room : c.args.at + (length (decimal c.args.n) + 1) ≤ length c.args.out.now = omega (arith, length_u64 c.args.n c.ranges.n.fits, c.requires) in
    both_put (number_put c.put_u64-end.ensures (omega (arith, room))) c.put_text.ensures (omega (arith, room))
