-- `compose::put` meets its contract: the message stands in the first bytes.
use Rattle.message.specs.Message.{meaning_of, bytes_of}
use Rattle.compose.proofs.PutLaws.{puts}
use Rattle.compose.proofs.put.Goals as goal

pub returns : goal.returns
returns c =
    let a = c.args in let it = puts (bytes_of (meaning_of a.m)) c.put_message.result a.out.now c.put_message.new.out c.put_message.ensures.value c.put_message.ensures.out_after in
    record { value = it.0; out_after = it.1 }
