-- Opening into bytes: of another length nothing is written, nor where the opening is refused.
use mathlib.Core.Path.{◌≡◌, sym, ap, ◌∙◌}
use Prim.Native.Nat.{ℕ}
use native.Mathlib.Omega.{arith}
use mathlib.Core.Bool.{true, false}
use mathlib.Core.List.{List}
use lib.ListN.{length}
use lib.Dec.{eqb}
use borrow.Author.Tests.{eq-eqb, ne_eqb}
use Rattle.message.specs.Question.{refusal_of}
use Rattle.end.specs.declared.Opened.{Opened}
use Rattle.lent_end.specs.State.{Holds}
use Rattle.lent_calls.specs.Open.{opened_number, opened_state, OpensAs}

module _ (o : Opened) (s : List ℕ) where
  refused_as_lem : (n : ℕ) → opened_number o s ≡ n → (n ≡ 0 → ⊥) → OpensAs o s s n
  unfolding opened_state
  refused_as_lem n e h =
      let no : eqb (opened_number o s) 0 ≡ false = ap (λ (k : ℕ). eqb k 0) e ∙ ne_eqb n 0 h in
      record { number = sym e; state = rw no; kept = λ z. absurd (h z); holds = λ z. absurd (h z) }

  pub other_length : (length s ≡ 31136 → ⊥) → OpensAs o s s 3
  unfolding opened_number
  other_length h = refused_as_lem 3 (rw (ne_eqb (length s) 31136 h)) (λ z. absurd (omega arith))

  module _ (q : ℕ) (g : length s ≡ 31136) (qe : q ≡ refusal_of o.verdict) where
    number_is_lem : opened_number o s ≡ q
    unfolding opened_number
    number_is_lem = rw (eq-eqb (length s) 31136 g) (sym qe)

    pub refused : (q ≡ 0 → ⊥) → OpensAs o s s q
    refused h = refused_as_lem q number_is_lem h

    pub taken : (last : List ℕ) → q ≡ 0 → Holds last o.end → OpensAs o s last q
    unfolding opened_state
    taken last z l =
        let yes : eqb (opened_number o s) 0 ≡ true = eq-eqb (opened_number o s) 0 (number_is_lem ∙ z) in
        record { number = sym number_is_lem; state = rw yes l.bytes; kept = λ e. l.tested; holds = λ e. l.reads }
