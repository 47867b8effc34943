-- What a message that passed the reader's questions gives: who asked and whose source it is about are hosts, and it may step that source.
use mathlib.Core.Path.{◌≡◌}
use Prim.Native.Nat.{ℕ, ◌<◌}
use mathlib.Core.Bool.{Bool, true, false, cond}
use lib.ListN.{get_or}
use Rattle.message.specs.Entry.{blank_name}
use Rattle.message.specs.declared.Message.{Message}
use Rattle.message.specs.Message.{Meaning, meaning_of}
use Rattle.message.specs.Question.{in_range}
use Rattle.end.specs.declared.Says.{Says}
use Rattle.end.specs.declared.Says.TheVariants.{Data, Rqst, Repl, Xprs}
use Rattle.end.specs.declared.Moment.{Moment}
use Rattle.end.specs.declared.Source.{Source}
use Rattle.end.specs.declared.Word.{Word}
use Rattle.end.specs.Arrival.{requester_in}
use Rattle.says.specs.Said.{is_about, says_in, asker_in, word_in, subject_of}
use Rattle.session.proofs.Passes.{in_range_lem}
use Rattle.heed.specs.Step.{Heeded}
use Rattle.receive.specs.Hearing.{HearingOn}

-- who asked, and whose source a message is about, are hosts
module _ (m : Meaning) (h : in_range 65535 m ≡ true) where
  pub asker_in_lem : (asker_in m).0 < 8
  asker_in_lem = go (says_in m.kind)
    where
      go : (says : Says) → (requester_in says m).0 < 8
      go Data = (in_range_lem m h).sender
      go Rqst = (in_range_lem m h).sender
      go Repl = (in_range_lem m h).host
      go Xprs = (in_range_lem m h).sender

  pub subject_in : (subject_of m).0 < 8
  subject_in = go (is_about m.kind)
    where
      go : (b : Bool) → (cond b (get_or m.names 0 blank_name).name.source m.sender).0 < 8
      go true = (in_range_lem m h).source
      go false = (in_range_lem m h).sender

-- so a message about a name may step its source
pub heeds : (t : Moment) (s : Source) (d : ℕ) (m : Message) (draws room : ℕ) (w : Word) → w ≡ word_in (meaning_of m) d → HearingOn t s d m draws room
    → Heeded t w s draws
heeds t s d m draws room w p h =
    rw p (record {
      source = h.source;
      counted = h.counted;
      requester = h.requester;
      numbered = record { number = (in_range_lem (meaning_of m) h.passed.ranges_in).number; draws_in = h.passed.draws_in };
    })
