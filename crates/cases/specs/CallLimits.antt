-- The limits of the book on moves, Send and the other events, one list of entries for each. Document 01, "The service's book".
use Rattle.std.specs.Prelude.{ℕ, List, [], ◌∷◌, ◌++◌}
use Rattle.message.specs.Message.{DATA}
use Rattle.end.specs.declared.Status.TheVariants.{Idle, Joining, Member, Leaving}
use Rattle.end.specs.Answer.{Out, Done, Ignored, Nothing}
use Rattle.end.specs.Event.{Moves, Send, Else, Fire}
use Rattle.end.specs.declared.Move.TheVariants.{Join, Leave, Left}
use Rattle.end.specs.Answer.{Did}
use Rattle.cases.specs.Listing.{minus_two, got, name_at, about_name, message0, message1}
use Rattle.cases.specs.Wire.{five_cue}
use Rattle.cases.specs.NotRuns.{entry, joins, leaves, sends, hears, third, Limit}

-- ---- "Join, Joined, Leave, Left, Crash: the status moves as under Events, with Done; where it doesn't move, Ignored."

-- a Join ignored where it moves
abbrev pub ignores_join : Limit
ignores_join = record {
  before = [];
  wrong = entry 2 (Moves Join) (Did Ignored) Joining;
  right = entry 2 (Moves Join) (Did Done) Joining;
  instead = entry 2 (Moves Join) (Did Done) Joining ∷ entry 2 (Moves Join) (Did Ignored) Joining ∷ [];
}

-- another status after a call that moves, and after one that does not
abbrev pub not_moved : Limit
not_moved = record {
  before = entry 1 (Moves Leave) (Did Done) Leaving ∷ [];
  wrong = entry 1 (Moves Left) (Did Done) Leaving;
  right = entry 1 (Moves Left) (Did Done) Idle;
  instead = entry 1 (Moves Leave) (Did Done) Leaving ∷ [];
}

abbrev pub moved_unasked : Limit
moved_unasked = record {
  before = [];
  wrong = entry 1 (Moves Left) (Did Ignored) Idle;
  right = entry 1 (Moves Left) (Did Ignored) Member;
  instead = leaves 1 ++ (entry 1 (Moves Left) (Did Ignored) Idle ∷ []);
}

-- ---- "Send: for a member the cue is filed for good under the host's next number, from 0; Out, a DATA with that name and cue."

-- a DATA of number 1 where the next is 2; the start has it where it is right
abbrev pub sent_other_name : Limit
sent_other_name = record {
  before = [];
  wrong = sends minus_two message1;
  right = sends minus_two (third minus_two);
  instead = [];
}

-- "The own number restarted after Leave, so one name has two cues.": a DATA of number 0; the start has this too
abbrev pub restarted : Limit
restarted = record {
  before = leaves 0 ++ joins 0;
  wrong = sends minus_two message0;
  right = sends minus_two (third minus_two);
  instead = [];
}

abbrev pub sent_other_cue : Limit
sent_other_cue = record {
  before = [];
  wrong = sends minus_two (third five_cue);
  right = sends minus_two (third minus_two);
  instead = sends five_cue (third five_cue) ∷ [];
}

-- "Otherwise Ignored.": host 2, which never joined, puts its cue 0 out
abbrev pub first_of2 : List ℕ
first_of2 = about_name (name_at 2 0) DATA 2 30 2 (minus_two ∷ [])

abbrev pub sent_outside : Limit
sent_outside = record {
  before = [];
  wrong = entry 2 (Send minus_two) (Did (Out first_of2)) Idle;
  right = entry 2 (Send minus_two) (Did Ignored) Idle;
  instead = joins 2 ++ (entry 2 (Send minus_two) (Did (Out first_of2)) Member ∷ []);
}

-- ---- "Other Arrivals, Fire, Report, events added later: nothing changes, never Got."
abbrev pub got_by_fire : Limit
got_by_fire = record {
  before = [];
  wrong = entry 1 (Else Fire) (got 0) Member;
  right = entry 1 (Else Fire) (Did Nothing) Member;
  instead = hears 1 message0 (got 0) ∷ [];
}
