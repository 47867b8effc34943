-- `timing::reply_due` meets its contract: the products' equations, one in the other.
use Rattle.timing.proofs.reply_due.Goals as goal

pub returns : goal.returns
returns c =
    let share = c.before in
    let whole = share.before in
    rw (share.drawn-share.ensures.value, whole.reply_wait-whole.ensures.value, whole.reply_wait-sure.ensures.value)
