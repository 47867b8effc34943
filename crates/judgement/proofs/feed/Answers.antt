use Rattle.judgement.proofs.KeptLaws.{none_fed, byte_fed, all_fed}
use Rattle.judgement.proofs.feed.Goals as goal

pub loop-b-init : goal.loop-b-init
loop-b-init c = none_fed _ _

pub loop-b-preserved : goal.loop-b-preserved
loop-b-preserved c = byte_fed c.loop-b.invariant c.loop-b-test.true c.take_byte.ensures

pub returns : goal.returns
returns c = all_fed c.loop-b.invariant c.loop-b-test.false
