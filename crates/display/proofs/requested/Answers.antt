-- `display::requested` meets its contract: the request stands in the first bytes.
use Rattle.display.proofs.CallLaws.{put-out}
use Rattle.display.proofs.requested.Goals as goal

pub returns : goal.returns
returns c =
    let it = put-out _ _ _ _ _ _ _ c.put_message-len.ensures.value c.put_message-len.ensures.out_after c.request_for.ensures.result_value c.none_lost.ensures in
    record { value = it.0; out_after = it.1 }
