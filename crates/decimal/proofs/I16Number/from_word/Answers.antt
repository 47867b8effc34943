use mathlib.Core.Path.{sym, ap, ◌∙◌}
use mathlib.Core.List.{[], ◌∷◌}
use Rattle.std.proofs.lemmas.Bool.Decides.{Decides-eqb}
use Rattle.std.proofs.lemmas.Slice.Eq.{strip_prefix_is}
use Rattle.std.specs.Prelude.{None, Some}
use Rattle.decimal.specs.Decimal.{as_positive, as_negative}
use Rattle.decimal.proofs.WordLaws.{minus_word, plain_word, tried}
use Rattle.decimal.proofs.I16Number.from_word.Goals as goal

-- What stands after a minus sign is the size of a negative number.
pub returns-in_err-from_word-in-Some : goal.returns-in_err-from_word-in-Some
returns-in_err-from_word-in-Some c =
    c.from_residual.ensures
    ∙ ap as_negative (sym c.in_err-from_word-in-Some.was ∙ c.from_word.ensures)
    ∙ minus_word _ _ (strip_prefix_is Decides-eqb c.args.word.now (45 ∷ []) (Some c.in-Some.size) c.in-Some.ensures.cases)

pub returns-in_ok-from_word-in-Some : goal.returns-in_ok-from_word-in-Some
returns-in_ok-from_word-in-Some c =
    c.negative.ensures
    ∙ ap as_negative (sym c.in_ok-from_word-in-Some.was ∙ c.from_word.ensures)
    ∙ minus_word _ _ (strip_prefix_is Decides-eqb c.args.word.now (45 ∷ []) (Some c.in-Some.size) c.in-Some.ensures.cases)

pub returns-in_err-from_word-in-None : goal.returns-in_err-from_word-in-None
returns-in_err-from_word-in-None c =
    c.from_residual-in_err-from_word-in-None.ensures
    ∙ ap as_positive (sym c.in_err-from_word-in-None.was ∙ c.from_word-in-None.ensures)
    ∙ plain_word _ (strip_prefix_is Decides-eqb c.args.word.now (45 ∷ []) None c.in-None.ensures.cases)

pub returns-in_ok-from_word-in-None : goal.returns-in_ok-from_word-in-None
returns-in_ok-from_word-in-None c =
    c.ok.ensures.value
    ∙ tried _ _ c.try_from.ensures
    ∙ ap as_positive (sym c.in_ok-from_word-in-None.was ∙ c.from_word-in-None.ensures)
    ∙ plain_word _ (strip_prefix_is Decides-eqb c.args.word.now (45 ∷ []) None c.in-None.ensures.cases)
