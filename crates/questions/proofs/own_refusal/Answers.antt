-- `questions::own_refusal` meets its contract: the event that was matched has these questions.
use mathlib.Core.Path.{◌∙◌}
use Rattle.message.specs.Question.{read_refusal}
use Rattle.questions.proofs.own_refusal.Goals as goal

pub returns-in-Moves : goal.returns-in-Moves
returns-in-Moves c = λ bytes h. rw c.in-Moves.is

pub returns-in-Send : goal.returns-in-Send
returns-in-Send c = λ bytes h. rw c.in-Send.is c.send_refusal.ensures

pub returns-in-Arrival : goal.returns-in-Arrival
unfolding read_refusal
returns-in-Arrival c = λ bytes h. rw c.in-Arrival.is (c.number_of.ensures ∙ (rw c.in-Arrival.is at h))

pub returns-in-Fire : goal.returns-in-Fire
returns-in-Fire c = λ bytes h. rw c.in-Fire.is

pub returns-in-Report : goal.returns-in-Report
returns-in-Report c = λ bytes h. rw c.in-Report.is

pub returns-in-Fetch : goal.returns-in-Fetch
returns-in-Fetch c = λ bytes h. rw c.in-Fetch.is

pub returns-in-Announce : goal.returns-in-Announce
returns-in-Announce c = λ bytes h. rw c.in-Announce.is
