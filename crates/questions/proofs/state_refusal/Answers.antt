-- `questions::state_refusal` meets its contract: the questions one before the other.
use Rattle.questions.proofs.state_refusal.Goals as goal

pub returns : goal.returns
returns c =
    rw (c.asked.ensures, c.sound.ensures, c.asked-four.ensures, c.asked-five.ensures)
