-- `compose::put_name` meets its contract: the message about the name goes out, with its cue if there is one.
use Rattle.compose.proofs.PutLaws.{puts_as}
use Rattle.compose.proofs.put_name.Goals as goal

pub returns-in-None : goal.returns-in-None
returns-in-None c =
    let it = puts_as _ _ _ _ _ (c.put.ensures.value, c.put.ensures.out_after) c.about_name.ensures.result_value in
    rw c.in-None.is (record { value = it.0; out_after = it.1 })

pub returns-in-Some : goal.returns-in-Some
returns-in-Some c =
    let it = puts_as _ _ _ _ _ (c.put-in-Some.ensures.value, c.put-in-Some.ensures.out_after) c.about_name-in-Some.ensures.result_value in
    rw c.in-Some.is (record { value = it.0; out_after = it.1 })
