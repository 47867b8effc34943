use mathlib.Core.Path.{sym, ap, ◌∙◌}
use Prim.Native.Nat.{ℕ, ◌+◌}
use native.Mathlib.Omega.{arith}
use lib.ListN.{drop}
use Rattle.std.specs.Prelude.{Option}
use Rattle.decimal.specs.Steps.{digits_after}
use Rattle.decimal.proofs.WordLaws.{digits_step, digits-end, digits-none}
use Rattle.decimal.proofs.digits_in.Goals as goal

pub returns-in_err-v : goal.returns-in_err-v
returns-in_err-v c =
    let s = c.args.digits.now in
    let i = c.loop-b.b-index in
    let e = sym c.with_digit.ensures ∙ c.in_err-v.was in
    c.from_residual.ensures ∙ sym (digits-none (drop (i + 1) s)) ∙ ap (λ (u : Option ℕ). digits_after u (drop (i + 1) s)) (sym e)
    ∙ sym (digits_step s _ i (omega arith)) ∙ c.loop-b.invariant

pub loop-b-preserved : goal.loop-b-preserved
loop-b-preserved c =
    let s = c.args.digits.now in
    let i = c.loop-b.b-index in
    let e = sym c.with_digit.ensures ∙ c.in_ok-v.was in
    ap (λ (u : Option ℕ). digits_after u (drop (i + 1) s)) (sym e) ∙ sym (digits_step s _ i (omega arith)) ∙ c.loop-b.invariant

pub returns : goal.returns
returns c = sym (digits-end _ _ c.loop-b.b-index (omega arith)) ∙ c.loop-b.invariant
