-- `compose::put_announce` meets its contract: the announce message goes out.
use Rattle.compose.proofs.PutLaws.{puts_as}
use Rattle.compose.proofs.put_announce.Goals as goal

pub returns : goal.returns
returns c =
    let it = puts_as _ _ _ _ _ (c.put.ensures.value, c.put.ensures.out_after) c.announce_message.ensures.result_value in
    record { value = it.0; out_after = it.1 }
