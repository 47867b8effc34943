-- `questions::refused_as` meets its contract: the state's questions, and then the event's own.
use Rattle.questions.proofs.refused_as.Goals as goal

pub returns : goal.returns
returns c = λ bytes h. rw (← (c.own_refusal-own.ensures bytes h)) c.state_refusal.ensures
