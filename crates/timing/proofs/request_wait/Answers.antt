use mathlib.Core.Path.{refl}
use Prim.Native.Nat.{◌*◌, ◌≤◌}
use native.Mathlib.Nat.{mul-le-mul}
use native.Mathlib.Omega.{arith}
use Rattle.timing.proofs.request_wait.Goals as goal

-- `timing::request_wait` meets its contract: the product fits.
pub overflow_mul-result : goal.overflow_mul-result
overflow_mul-result c = omega (arith, mul-le-mul {n₂ = 32768} {m₂ = 32} c.requires.0 c.requires.1)

pub overflow_mul-result-2 : goal.overflow_mul-result-2
overflow_mul-result-2 c =
    let most : c.args.f * c.args.c * c.args.d ≤ 1048576000 = mul-le-mul (mul-le-mul c.requires.0 c.requires.1) c.requires.2 in
    omega arith

pub returns : goal.returns
returns c = record { value = refl; upper_bound = mul-le-mul (mul-le-mul c.requires.0 c.requires.1) c.requires.2 }
