use borrow.Author.Rules.{rules}
use borrow.Author.Tests.{tests}
use lib.Dec.{ltb}
use Rattle.std.proofs.lemmas.List.Sorted.{answers_always}
use Rattle.message.specs.Question.{echo_host}
use Rattle.message.proofs.TestLaws.{rises-sorted}
use Rattle.message.proofs.echoes_rise.Goals as goal

-- `message::echoes_rise` meets its contract: the library asks of each entry and the next whether the keys rise.
pub returns : goal.returns
returns c =
    rises-sorted echo_host _ _ (c.is_sorted_by.ensures.cases (λ x y. ltb (echo_host x) (echo_host y)) (answers_always _ _ _ (λ f a r q k. search (rules, tests))))
