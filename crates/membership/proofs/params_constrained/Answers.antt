use native.Mathlib.Omega.{arith}
use Rattle.membership.proofs.MoveLaws.{small}
use Rattle.membership.proofs.params_constrained.Goals as goal

-- `membership::params_constrained` meets its contract: no sum or product of parameters up to 32 leaves 64 bits.
pub overflow_add-replies : goal.overflow_add-replies
overflow_add-replies c =
    let s = small c.args.p c.requires in
    omega (arith, s.d1, s.d2)

pub overflow_mul-requests : goal.overflow_mul-requests
overflow_mul-requests c =
    let s = small c.args.p c.requires in
    omega (arith, s.c1)

pub overflow_add-replies-then-p : goal.overflow_add-replies-then-p
overflow_add-replies-then-p c =
    let s = small c.args.p c.requires in
    omega (arith, s.d1, s.d2)

pub overflow_add-result : goal.overflow_add-result
overflow_add-result c =
    let s = small c.args.p c.requires in
    omega (arith, s.d1, s.d2, s.d3)
