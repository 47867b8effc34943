use mathlib.Core.Path.{sym, ◌∙◌}
use native.Mathlib.Omega.{arith}
use borrow.Author.Tests.{eqb-true, eqb-false}
use Rattle.decimal.proofs.WordLaws.{empty_word, zero_word, good_word}
use Rattle.decimal.proofs.U64Number.from_word.Goals as goal

-- A word that starts rightly means what its digits stand for.
pub returns-then-is_empty : goal.returns-then-is_empty
returns-then-is_empty c = empty_word _ (omega (arith, eqb-true _ _ (sym c.is_empty.ensures ∙ c.if-is_empty.true)))

pub returns-then-word : goal.returns-then-word
returns-then-word c = zero_word _ (omega (arith, eqb-false _ _ (sym c.is_empty.ensures ∙ c.if-is_empty.false))) c.if-word.true

pub returns : goal.returns
returns c = c.digits_in.ensures ∙ good_word _ (omega (arith, eqb-false _ _ (sym c.is_empty.ensures ∙ c.if-is_empty.false))) c.if-word.false
