use borrow.Author.Rules.{rules}
use borrow.Author.Tests.{tests}
use lib.Dec.{ltb}
use Rattle.std.proofs.lemmas.List.Sorted.{answers_always}
use Rattle.message.specs.Question.{report_source}
use Rattle.message.proofs.TestLaws.{rises-sorted}
use Rattle.message.proofs.reports_rise.Goals as goal

-- `message::reports_rise` meets its contract: the library asks of each entry and the next whether the keys rise.
pub returns : goal.returns
returns c =
    rises-sorted report_source _ _ (c.is_sorted_by.ensures.cases (λ x y. ltb (report_source x) (report_source y)) (answers_always _ _ _ (λ f a r q k. search (rules, tests))))
