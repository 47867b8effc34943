-- `questions::send_refusal` meets its contract: question 6 before question 7.
use Rattle.questions.proofs.send_refusal.Goals as goal

pub returns : goal.returns
returns c =
    rw (c.asked.ensures, c.cue_in.ensures, c.asked-seven.ensures, c.is_member.ensures)
