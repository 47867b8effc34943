-- `entries::put_opening` meets its contract: the answer is the one that was matched.
use native.Mathlib.Omega.{arith}
use mathlib.Core.Path.{sym, ap}
use Rattle.answers.proofs.PutLaws.{put_wider, put_same}
use Rattle.entries.specs.Print.{opening_line}
use Rattle.entries.proofs.put_opening.Goals as goal

pub returns-in-At : goal.returns-in-At
returns-in-At c = put_same c.put_moment.ensures (sym (ap opening_line c.in-At.is))

pub returns-in-None : goal.returns-in-None
returns-in-None c =
    put_same (put_wider c.text.ensures (omega arith)) (sym (ap opening_line c.in-None.is))

pub returns-in-Refused : goal.returns-in-Refused
returns-in-Refused c = put_same c.put_refused.ensures (sym (ap opening_line c.in-Refused.is))
