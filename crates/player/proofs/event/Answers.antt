use Rattle.player.proofs.VerbLaws.{acts}
use Rattle.player.proofs.event.Goals as goal

-- `player::event` meets its contract: the call is that of the verb's event. Of the call only the first two promises are used.
pub returns : goal.returns
returns c =
    let a = c.args in
    let same = acts a.verb a.bytes.now c.event_of.ensures c.cue_of.ensures in record { value = rw same at c.event.ensures.value; out_after = rw same at c.event.ensures.out_after }
