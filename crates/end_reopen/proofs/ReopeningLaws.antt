-- The call that opens an end again: an opening's questions, two more, and then the end with the two stored numbers.
use mathlib.Core.Path.{◌≡◌, refl, sym, ap, ◌∙◌}
use Prim.Native.Nat.{ℕ, zero, suc, ◌≤◌}
use native.Mathlib.Omega.{arith}
use mathlib.Core.Bool.{Bool, true, false, cond, ◌&&◌}
use lib.Dec.{eqb, leb}
use borrow.Author.Tests.{leb-true, ne_eqb}
use Rattle.message.specs.declared.Host.{Host}
use Rattle.message.specs.declared.Verdict.{Verdict}
use Rattle.message.specs.declared.Verdict.TheVariants.{Accepted}
use Rattle.message.specs.Entry.{as_host}
use Rattle.message.specs.Limit.{number_limit}
use Rattle.message.specs.Question.{ticks_in, host_in, verdict_for, refusal_of}
use Rattle.message.proofs.QuestionLaws.{number_of_verdict}
use Rattle.end.specs.declared.Params.{Params}
use Rattle.end.specs.declared.Status.TheVariants.{Idle, Crashed}
use Rattle.end.specs.declared.End.{End}
use Rattle.end.specs.declared.Opened.{Opened}
use Rattle.end.specs.State.{fresh_end}
use Rattle.end.specs.Sound.{all_of, params_tests, delay_in}
use Rattle.end.specs.Opening.{constrained_tests, house_params, open_refusal, end_for, opening_of}
use Rattle.end_reopen.specs.Reopen.{reopened_from, reopened}
use Rattle.end_reopen.specs.Reopening.{reopen_refusal, verdict_with, reopened_for, reopening_of}

-- three questions before others are their first no, or that of the others
after-three : (h g d : Bool) (r : ℕ)
    → cond h (cond g (cond d r 14) 13) 12 ≡ cond (eqb (cond h (cond g (cond d 0 14) 13) 12) 0) r (cond h (cond g (cond d 0 14) 13) 12)
after-three true true true r = refl
after-three true true false r = refl
after-three true false d r = refl
after-three false g d r = refl

-- the first no of questions 4 and 7
abbrev pub two_more : ℕ → ℕ → ℕ
two_more clock next = cond (ticks_in clock) (cond (leb next number_limit) 0 7) 4

refusal_as : (me : Host) (p : Params) (clock next : ℕ) → reopen_refusal me p clock next ≡ cond (eqb (open_refusal me p) 0) (two_more clock next) (open_refusal me p)
unfolding reopen_refusal open_refusal
refusal_as me p clock next = after-three (host_in me) (all_of (params_tests p) && all_of (constrained_tests p)) (delay_in p) (two_more clock next)

-- no question is answered no
both_none : (k r : ℕ) → cond (eqb k 0) r k ≡ 0 → (k ≡ 0) × (r ≡ 0)
both_none zero r h = (refl, h)
both_none (suc k) r h =
    let not-zero : suc k ≡ 0 → ⊥ = λ e. absurd (omega arith) in
    let e : cond (eqb (suc k) 0) r (suc k) ≡ suc k = rw (ne_eqb (suc k) 0 not-zero) in
    absurd (omega (arith, sym e ∙ h))

next_small : (t n : Bool) → ◌≡◌ {A = ℕ} (cond t (cond n 0 7) 4) 0 → n ≡ true
next_small true true h = refl
next_small true false h = absurd (omega (arith, h))
next_small false n h = absurd (omega (arith, h))

given_for : (k : ℕ) (me : Host) (p : Params) (clock next : ℕ) → (k ≡ 0 → ⊥)
    → ◌≡◌ {A = Opened} (record { verdict = verdict_for k; end = fresh_end (as_host 0) house_params Crashed }) (record { verdict = verdict_for k; end = reopened_for k me p clock next })
given_for zero me p clock next h = absurd (h refl)
given_for (suc k) me p clock next h = refl

-- the two questions after an opening's own, by the number of its refusal
with_is : (k clock next : ℕ) → verdict_with (verdict_for k) clock next ≡ verdict_for (cond (eqb k 0) (two_more clock next) k)
with_is zero clock next = refl
with_is (suc k) clock next =
    let not-zero : suc k ≡ 0 → ⊥ = λ e. absurd (omega arith) in
    rw (ne_eqb (suc k) 0 not-zero)

module _ (me : Host) (p : Params) (clock next : ℕ) (o : Opened) (v : Verdict) (oe : o ≡ opening_of me p) (ve : v ≡ verdict_with o.verdict clock next) where
  v_is : v ≡ verdict_for (reopen_refusal me p clock next)
  unfolding opening_of
  v_is = ve ∙ ap (λ (x : Opened). verdict_with x.verdict clock next) oe ∙ with_is (open_refusal me p) clock next ∙ ap verdict_for (sym (refusal_as me p clock next))

  none : v ≡ Accepted → reopen_refusal me p clock next ≡ 0
  none h = sym (number_of_verdict (reopen_refusal me p clock next)) ∙ ap refusal_of (sym v_is ∙ h)

  none-of_both : v ≡ Accepted → (open_refusal me p ≡ 0) × (two_more clock next ≡ 0)
  none-of_both h = both_none (open_refusal me p) (two_more clock next) (sym (refusal_as me p clock next) ∙ none h)

  pub next_fits : v ≡ Accepted → next ≤ 65536
  next_fits h = leb-true next 65536 (next_small (ticks_in clock) (leb next number_limit) (none-of_both h).1)

  fresh-is : v ≡ Accepted → o.end ≡ fresh_end me p Idle
  unfolding opening_of
  fresh-is h = ap (λ (x : Opened). x.end) oe ∙ ap (λ (k : ℕ). end_for k me p) (none-of_both h).0

  pub accepted : (e : End) → v ≡ Accepted → e ≡ reopened_from o.end clock next → ◌≡◌ {A = Opened} (record { verdict = Accepted; end = e }) (reopening_of me p clock next)
  unfolding reopening_of
  accepted e z h =
      let same : e ≡ reopened me p clock next = h ∙ ap (λ (x : End). reopened_from x clock next) (fresh-is z) in
      rw (none z) (λ i. record { verdict = Accepted; end = same i })

  pub refused : (e : End) → (v ≡ Accepted → ⊥) → e ≡ fresh_end (as_host 0) house_params Crashed
      → ◌≡◌ {A = Opened} (record { verdict = v; end = e }) (reopening_of me p clock next)
  unfolding reopening_of
  refused e h g =
      (λ i. record { verdict = v_is i; end = g i })
      ∙ given_for (reopen_refusal me p clock next) me p clock next (λ z. h (v_is ∙ ap verdict_for z))

-- what an opening of a host that there is not gives
pub no_host : (p : Params) → (opening_of (as_host 255) p).end ≡ fresh_end (as_host 0) house_params Crashed
unfolding opening_of open_refusal
no_host p = refl
