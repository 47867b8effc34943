use native.Mathlib.Omega.{arith}
use mathlib.Core.Path.{◌≡◌}
use mathlib.Core.List.{List}
use Prim.Native.Nat.{ℕ, ◌≤◌}
use lib.ListN.{length}
use lib.Dec.{lit≤}
use Rattle.end.specs.declared.Reason.{Reason}
use Rattle.end.specs.declared.Reason.TheVariants.{Crashed, WrongStatus, OwnMessage, NotOpen, BelowFirst, OwnAboveLast, AlreadyHeld, ReplyWaiting, ReplyQuiet, RequestQuiet, NoFetch}
use Rattle.end.specs.Why.{reason_words}
use Rattle.answers.specs.AnswerLine.{answer_words}
use Rattle.answers.proofs.PutLaws.{put_both, put_same, put_wider}
use Rattle.answers.proofs.put_ignored_for.Goals as goal

-- `answers::put_ignored_for` meets its contract: the word and then the reason, whose words are 21 bytes at most.
few : (r : Reason) → length (reason_words r) ≤ 21
few Crashed = lit≤ tt
few WrongStatus = lit≤ tt
few OwnMessage = lit≤ tt
few NotOpen = lit≤ tt
few BelowFirst = lit≤ tt
few OwnAboveLast = lit≤ tt
few AlreadyHeld = lit≤ tt
few ReplyWaiting = lit≤ tt
few ReplyQuiet = lit≤ tt
few RequestQuiet = lit≤ tt
few NoFetch = lit≤ tt

pub returns : goal.returns
unfolding answer_words
returns c =
    let words = put_wider {most = 21} (put_same c.text.ensures c.words.ensures) (rw c.words.ensures (few c.args.reason)) in
    put_both c.text-end.ensures words (omega arith) (omega arith)
