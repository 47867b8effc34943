use Rattle.player.proofs.VerbLaws.{acts}
use Rattle.player.proofs.reason.Goals as goal

-- `player::reason` meets its contract: the call is that of the verb's event. Of the call only the first promise is used.
pub returns : goal.returns
returns c =
    let a = c.args in
    rw (acts a.verb a.bytes.now c.event_of.ensures c.cue_of.ensures) at c.reason.ensures.value
