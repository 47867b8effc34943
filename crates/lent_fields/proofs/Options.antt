-- The laws of a thing that is there or not, by its numbers.
use mathlib.Core.Path.{◌≡◌, sym, ◌∙◌}
use Prim.Native.Nat.{ℕ, suc}
use native.Mathlib.Omega.{arith}
use mathlib.Core.Bool.{Bool, true, ◌&&◌}
use lib.Dec.{eqb}
use borrow.Author.Tests.{eqb-true, ne_eqb}
use Rattle.message.proofs.QuestionLaws.{and_both}
use Rattle.lent_fields.specs.Fields.{is_option}

pub no_option : (n : ℕ) (none : Bool) → is_option (suc (suc n)) none ≡ true → ⊥
no_option n none h =
    let zero-not : suc (suc n) ≡ 0 → ⊥ = λ e. absurd (omega arith) in
    let e : is_option (suc (suc n)) none ≡ eqb (suc (suc n)) 1 = rw (ne_eqb (suc (suc n)) 0 zero-not) in
    absurd (omega (arith, eqb-true (suc (suc n)) 1 (sym e ∙ h)))

pub one-zero : (a : ℕ) → eqb a 0 ≡ true → a ≡ 0
one-zero a h = eqb-true a 0 h

pub two-zero : (a b : ℕ) → (eqb a 0 && eqb b 0) ≡ true → (a ≡ 0) × (b ≡ 0)
two-zero a b h =
    let p = and_both (eqb a 0) (eqb b 0) h in
    (eqb-true a 0 p.0, eqb-true b 0 p.1)

pub three-zero : (a b c : ℕ) → (eqb a 0 && eqb b 0 && eqb c 0) ≡ true → (a ≡ 0) × (b ≡ 0) × (c ≡ 0)
three-zero a b c h =
    let p = and_both (eqb a 0 && eqb b 0) (eqb c 0) h in
    let q = two-zero a b p.0 in
    (q.0, q.1, eqb-true c 0 p.1)
