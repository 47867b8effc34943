-- What a message says of a name, as the code reads it: the kinds that are about one, its first entry and its word, and whose source it is about.
use Rattle.std.specs.Prelude.{ℕ, Bool, cond, ◌||◌, get_or, eqb}
use Rattle.message.specs.declared.Host.{Host}
use Rattle.message.specs.declared.NameEntry.{NameEntry}
use Rattle.message.specs.Entry.{blank_name}
use Rattle.message.specs.Message.{DATA, RQST, REPL, XPRS, FTCH, LATE, ANNC, Meaning}
use Rattle.end.specs.declared.Says.{Says}
use Rattle.end.specs.declared.Says.TheVariants.{Data, Rqst, Repl, Xprs}
use Rattle.end.specs.declared.Word.{Word}
use Rattle.end.specs.Arrival.{message_name, message_host, message_cue, requester_in}

-- the kinds of messages that are decided on by their word, and what each says
abbrev pub is_named : ℕ → Bool
is_named kind = eqb kind DATA || (eqb kind RQST || (eqb kind REPL || eqb kind XPRS))

-- the kinds of messages about names: the kinds 22 to 24 too
abbrev pub is_about : ℕ → Bool
is_about kind = is_named kind || (eqb kind FTCH || (eqb kind LATE || eqb kind ANNC))

abbrev pub entry_in : Meaning → NameEntry
entry_in m = get_or m.names 0 blank_name

abbrev pub says_in : ℕ → Says
says_in kind = cond (eqb kind DATA) Data (cond (eqb kind RQST) Rqst (cond (eqb kind REPL) Repl Xprs))

abbrev pub asker_in : Meaning → Host
asker_in m = requester_in (says_in m.kind) m

-- the word of a message about a name, with the reader's distance to the requester
abbrev pub word_in : Meaning → ℕ → Word
word_in m d = record {
  says = says_in m.kind;
  name = message_name m;
  host = message_host m;
  sender = m.sender;
  requester = asker_in m;
  distance = d;
  cue = message_cue m;
}

-- whose source a message is about
abbrev pub subject_of : Meaning → Host
subject_of m = cond (is_about m.kind) (message_name m).source m.sender
