use mathlib.Core.Bool.{◌&&◌}
use Rattle.lent_source.specs.Source.{source_test}
use Rattle.lent_source.proofs.SourceFormForm.test.Goals as goal

-- `SourceForm::test` meets its contract.
pub returns : goal.returns
unfolding source_test
returns c = λ i. c.test.ensures i && c.test-2.ensures i && c.test-3.ensures i && c.test-4.ensures i && c.test_all.ensures i && c.test_all-2.ensures i
