-- The limits of the book on an Arrival, one list of entries for each. Document 01, "The service's book".
use Rattle.std.specs.Prelude.{ℕ, List, [], ◌∷◌, ◌++◌}
use Rattle.std.proofs.Math.Option.{some}
use Rattle.message.specs.Entry.{as_host, as_number}
use Rattle.message.specs.Message.{SESS, bytes_of}
use Rattle.end.specs.declared.Status.TheVariants.{Idle, Member, Leaving}
use Rattle.end.specs.Answer.{Got, Done, Ignored}
use Rattle.end.specs.Event.{Moves, Arrival}
use Rattle.end.specs.declared.Move.TheVariants.{Leave}
use Rattle.end.specs.Answer.{Did}
use Rattle.end.specs.Book.{Book}
use Rattle.cases.specs.Listing.{minus_two, got, name_of, message0, message1}
use Rattle.cases.specs.Wire.{five_cue}
use Rattle.cases.specs.NotRuns.{entry, joins, leaves, sends, hears, third, repair, Limit}

-- ---- "the reader is a member and not the source"

-- a Got of host 2, which never joined
abbrev pub to_non_member : Limit
to_non_member = record {
  before = [];
  wrong = entry 2 (Arrival message0) (got 0) Idle;
  right = entry 2 (Arrival message0) (Did Ignored) Idle;
  instead = joins 2 ++ (hears 2 message0 (got 0) ∷ []);
}

abbrev pub while_leaving : Limit
while_leaving = record {
  before = entry 1 (Moves Leave) (Did Done) Leaving ∷ [];
  wrong = entry 1 (Arrival message0) (got 0) Leaving;
  right = entry 1 (Arrival message0) (Did Ignored) Leaving;
  instead = hears 1 message0 (got 0) ∷ [];
}

-- the source hears a repair of its own cue from host 1. It never has a first of its own, so this is a repair without a first as well, and
-- an original would be looped: no list from the empty book fails by this limit alone (but see `owned`)
abbrev pub to_the_source : Limit
to_the_source = record {
  before = [];
  wrong = hears 0 (repair 1 2) (got 1);
  right = hears 0 (repair 1 2) (Did Done);
  instead = joins 2 ++ (hears 2 message0 (got 0) ∷ hears 2 (repair 1 2) (got 1) ∷ []);
}

-- a book that no list leads to, in which this limit alone is left: all hosts are members, each has sent two cues, and the first of each is
-- handed out to all, the sender too
abbrev pub owned : Book
owned = record { status = λ h. Member; filed = λ h. minus_two ∷ minus_two ∷ []; handed = λ h s. 0 ∷ []; highest = λ h s. some 0 }

-- ---- "the name is filed": host 0 has not sent its third cue
abbrev pub not_filed : Limit
not_filed = record {
  before = [];
  wrong = hears 1 (third minus_two) (got 2);
  right = hears 1 (third minus_two) (Did Ignored);
  instead = sends minus_two (third minus_two) ∷ hears 1 (third minus_two) (got 2) ∷ [];
}

-- ---- "its number is not below the first one handed out from that source since joining, if any, and not handed out since joining"
abbrev pub below_the_first : Limit
below_the_first = record {
  before = hears 1 message1 (got 1) ∷ [];
  wrong = hears 1 message0 (got 0);
  right = hears 1 message0 (Did Ignored);
  instead = hears 1 message0 (got 0) ∷ hears 1 message1 (got 1) ∷ [];
}

abbrev pub twice : Limit
twice = record {
  before = hears 1 message0 (got 0) ∷ [];
  wrong = hears 1 message0 (got 0);
  right = hears 1 message0 (Did Ignored);
  instead = hears 1 message0 (got 0) ∷ leaves 1 ++ (joins 1 ++ (hears 1 message0 (got 0) ∷ []));
}

-- ---- document 02, P7: "Got now also needs a number not below L−63", L "the highest number .. that unlooped DATA, RQST, REPL and SESS ..
-- brought": host 2 reports last 65 of host 0, so 2 is the least; 64 leaves 1 in
abbrev pub reported : ℕ → List ℕ
reported last = bytes_of (record {
  kind = SESS;
  sender = as_host 2;
  stamp = 30;
  names = [];
  cues = [];
  reports = record { source = as_host 0; last = as_number last } ∷ [];
  echoes = [];
})

abbrev pub retired : Limit
retired = record {
  before = hears 1 message0 (got 0) ∷ hears 1 (reported 65) (Did Done) ∷ [];
  wrong = hears 1 message1 (got 1);
  right = hears 1 message1 (Did Ignored);
  instead = hears 1 message0 (got 0) ∷ hears 1 (reported 64) (Did Done) ∷ hears 1 message1 (got 1) ∷ [];
}

-- "from the first hand-out since joining": a report before it counts for nothing
abbrev pub reported_early : Limit
reported_early = record {
  before = hears 1 (reported 65) (Did Done) ∷ hears 1 message0 (got 0) ∷ [];
  wrong = hears 1 message1 (Did Ignored);
  right = hears 1 message1 (got 1);
  instead = hears 1 message0 (got 0) ∷ hears 1 (reported 65) (Did Done) ∷ hears 1 message1 (Did Ignored) ∷ [];
}

-- ---- "Got comes exactly when an original, or a repair where there is such a first, isn't looped and meets the limits."

-- a due Got withheld
abbrev pub withheld : Limit
withheld = record {
  before = [];
  wrong = hears 1 message0 (Did Ignored);
  right = hears 1 message0 (got 0);
  instead = hears 1 message0 (got 0) ∷ hears 1 message0 (Did Ignored) ∷ [];
}

abbrev pub without_first : Limit
without_first = record {
  before = [];
  wrong = hears 1 (repair 0 1) (got 1);
  right = hears 1 (repair 0 1) (Did Ignored);
  instead = hears 1 message0 (got 0) ∷ hears 1 (repair 0 1) (got 1) ∷ [];
}

-- "looped if its sender is its reader": a repair that host 1 sent itself
abbrev pub looped : Limit
looped = record {
  before = hears 1 message0 (got 0) ∷ [];
  wrong = hears 1 (repair 1 2) (got 1);
  right = hears 1 (repair 1 2) (Did Ignored);
  instead = hears 1 message0 (got 0) ∷ hears 1 (repair 3 2) (got 1) ∷ [];
}

-- ---- "It has the message's name and the filed cue"
abbrev pub other_name : Limit
other_name = record {
  before = [];
  wrong = hears 1 message0 (got 1);
  right = hears 1 message0 (got 0);
  instead = hears 1 message1 (got 1) ∷ [];
}

abbrev pub other_bytes : Limit
other_bytes = record {
  before = sends minus_two (third minus_two) ∷ [];
  wrong = hears 1 (third minus_two) (Did (Got (name_of 2) five_cue));
  right = hears 1 (third minus_two) (got 2);
  instead = sends five_cue (third five_cue) ∷ hears 1 (third five_cue) (Did (Got (name_of 2) five_cue)) ∷ [];
}
