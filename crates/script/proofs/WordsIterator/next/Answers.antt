use mathlib.Core.Path.{sym, ap, ◌∙◌}
use lib.ListN.{length}
use Rattle.std.proofs.Common.{rules}
use Rattle.script.specs.Left.{left_of}
use Rattle.script.proofs.WordsLaws.{one_word, cut_word}
use Rattle.script.proofs.WordsIterator.next.Goals as goal

-- The first word is given, and what stands after its space is left.
pub returns-in-Some-clause-steps : goal.returns-in-Some-clause-steps
returns-in-Some-clause-steps c = ap left_of c.in_ok-line.was ∙ cut_word _ _ (sym c.space_in.ensures ∙ c.in-Some.is)

pub returns-in-Some-clause-goes : goal.returns-in-Some-clause-goes
returns-in-Some-clause-goes c =
    let e = ap length (ap left_of c.in_ok-line.was ∙ cut_word _ _ (sym c.space_in.ensures ∙ c.in-Some.is)) in
    search rules

pub returns-in-None-clause-steps : goal.returns-in-None-clause-steps
returns-in-None-clause-steps c = ap left_of c.in_ok-line.was ∙ one_word _ (sym c.space_in.ensures ∙ c.in-None.is)

pub returns-in-None-clause-goes : goal.returns-in-None-clause-goes
returns-in-None-clause-goes c =
    let e = ap length (ap left_of c.in_ok-line.was ∙ one_word _ (sym c.space_in.ensures ∙ c.in-None.is)) in
    search rules
