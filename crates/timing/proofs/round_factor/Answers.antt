use mathlib.Core.Path.{◌≡◌, sym, subst, ◌∙◌}
use Prim.Native.Nat.{ℕ, ◌-◌, ◌*◌, ◌%◌, ◌^◌, ◌≤◌, ◌<◌}
use native.Mathlib.Nat.{one-mul}
use native.Mathlib.Omega.{arith}
use lib.Dec.{lit<}
use lib.Pow.{shl_exact}
use Rattle.end.specs.Round.{factor}
use Rattle.end.proofs.Bounds.{factor-most}
use Rattle.timing.proofs.round_factor.Goals as goal

-- `timing::round_factor` meets its contract: a shift of 1 by k-1, which is below 64, is 2^(k-1).
shifted : (n : ℕ) → n < 63 → (1 * 2 ^ n) % 2 ^ 64 ≡ 2 ^ n
shifted n h = shl_exact {a = 1} 1 n 64 (lit< tt) (omega arith) ∙ one-mul (2 ^ n)

pub returns : goal.returns
unfolding factor
returns c =
    let k = c.args.k in
    let f : (1 * 2 ^ (k - 1)) % 2 ^ 64 ≡ 2 ^ (k - 1) = shifted (k - 1) (omega arith) in record { value = f; upper_bound = subst (λ (x : ℕ). x ≤ 32768) (sym f) (factor-most k (omega arith)) }
