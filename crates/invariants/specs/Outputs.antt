-- What goes out is right, as a statement; proofs/Outputs.antt proves it.
use Rattle.std.specs.Prelude.{◌≡◌, true, false, List, [], ◌∷◌, ℕ, ◌+◌, ◌≤◌, ◌<◌}
use Rattle.numbers.specs.Bits.{bit}
use Rattle.message.specs.declared.Host.{Host}
use Rattle.message.specs.declared.CueNumber.{CueNumber}
use Rattle.message.specs.declared.Name.{Name}
use Rattle.message.specs.Message.{DATA, RQST, REPL, SESS, XPRS, FTCH, LATE, ANNC, Meaning, meaning_from}
use Rattle.message.specs.Question.{same_host, read_of}
use Rattle.message.specs.declared.Verdict.TheVariants.{Accepted}
use Rattle.end.specs.Parts.{Open, Pair}
use Rattle.end.specs.declared.Record.{Record}
use Rattle.end.specs.declared.End.{End}
use Rattle.end.specs.State.{source_at, distance_to, moment_of}
use Rattle.end.specs.Records.{record_at, is_held, fetchable}
use Rattle.end.specs.Sound.{is_no_pair}
use Rattle.end.specs.Answer.{Out, Did}
use Rattle.end.specs.Messages.{own_entry}
use Rattle.end.specs.Arrival.{message_name, message_host, message_cue}
use Rattle.end.specs.Fire.{kept_sender}
use Rattle.end.specs.Fetch.{attempt_on, reported_by}
use Rattle.end.specs.Event.{Action, Send, Arrival, Else, Announce, Fetch, own_name, event_of}
use Rattle.end.specs.Run.{CueArray}

-- what an end keeps under a name, and the pair that it keeps of the name's source
abbrev pub kept_under : End → Name → Record
kept_under e name = record_at (source_at e name.source) name.number.0

abbrev pub pair_of : End → Name → Pair
pair_of e name = (source_at e name.source).pair

-- what goes out at once for an XPRS that arrives: a REPL with its name and its sender as requester, where the XPRS names this end as its
-- host, once the reply-quiet time of the name is over
pub record AtOnce (e : End) (clock : ℕ) (m out : Meaning) : Type 0 where
  pub express : m.kind ≡ XPRS
  pub named : same_host (message_host m) e.host ≡ true
  pub over : (kept_under e (message_name m)).hush ≤ clock
  pub repair : out.kind ≡ REPL
  pub name : message_name out ≡ message_name m
  pub requester : message_host out ≡ m.sender

-- what goes out for a kind 22 that arrives. Document 02, P9: "The tried host answers with kind 23 in that call if it holds the cue": with the
-- name that is asked for, to the one who asks
pub record Fetched (e : End) (m out : Meaning) : Type 0 where
  pub fetch : m.kind ≡ FTCH
  pub tried : same_host (message_host m) e.host ≡ true
  pub late : out.kind ≡ LATE
  pub name : message_name out ≡ message_name m
  pub asker : message_host out ≡ m.sender

-- nothing else goes out for a message that arrives
pub data Answered (e : End) (clock : ℕ) (m out : Meaning) : Type 0 where
  at_once : AtOnce e clock m out → Answered e clock m out
  fetched : Fetched e m out → Answered e clock m out

-- a host that may be tried for a name: "Candidates are the other hosts whose last heard session message since joining reported that source",
-- "among those not yet tried for that number since joining"
pub record MayTry (e : End) (name : Name) (h : Host) : Type 0 where
  pub other : same_host h e.host ≡ false
  pub reports : reported_by (source_at e h).heard name.source ≡ true
  pub untried : bit (attempt_on e name).tried h.0 ≡ false

-- what goes out by a Fetch of a name: kind 22 with that name. "A member may fetch any of the 64 numbers just below the first original it had
-- since joining from another host"; not "one already handed out". "Each call tries the one with the least distance, ties to the lower host"
pub record Fetches (e : End) (asked : Name) (out : Meaning) : Type 0 where
  pub kind : out.kind ≡ FTCH
  pub name : message_name out ≡ asked
  pub below : fetchable (source_at e asked.source).origin asked.number.0 ≡ true
  pub lacking : (attempt_on e asked).late ≡ false
  pub host : (message_host out).0 < 8
  pub may : MayTry e asked (message_host out)
  pub least : (k : Host) → k.0 < 8 → MayTry e asked k → distance_to e (message_host out) ≤ distance_to e k
  pub lower : (k : Host) → k.0 < (message_host out).0 → MayTry e asked k → distance_to e (message_host out) < distance_to e k

-- what goes out by an Announce. Document 02, P11: "has a member put out its own first and last as trail and lead in kind 24, two names .. with
-- the sender as source and host"; "lead is from trail to trail+63"
pub record Announces (e : End) (out : Meaning) : Type 0 where
  pub kind : out.kind ≡ ANNC
  pub first : CueNumber
  pub last : CueNumber
  pub own : (source_at e e.host).span ≡ Open first last
  pub names : out.names ≡ own_entry (moment_of e) first ∷ own_entry (moment_of e) last ∷ []
  pub rising : first.0 ≤ last.0
  pub window : last.0 ≤ first.0 + 63

-- a message that is right to put out in a call with this action and this clock, on this end
pub record RightMessage (e : End) (a : Action) (clock : ℕ) (m : Meaning) : Type 0 where
  -- the sender is the end's own host, and the stamp is the clock
  pub sender : m.sender ≡ e.host
  pub stamp : m.stamp ≡ clock
  -- by Send goes out a DATA with the end's own next name and the cue that is sent
  pub sent : (cue : List ℕ) → a ≡ Send cue → (m.kind ≡ DATA) × (message_name m ≡ own_name e) × (message_cue m ≡ cue)
  -- by the Arrival of a probe goes out a SESS, and by that of a message nothing but a REPL at once or a kind 23
  pub probed : a ≡ Arrival [] → m.kind ≡ SESS
  pub answered : (b : ℕ) (s : List ℕ) → a ≡ Arrival (b ∷ s) → Answered e clock (meaning_from (b ∷ s)) m
  -- by a Fetch goes out a kind 22 for its name, and by nothing else
  pub fetches : (name : Name) → a ≡ Else (Fetch name) → Fetches e name m
  pub fetched : m.kind ≡ FTCH → a ≡ Else (Fetch (message_name m))
  -- by an Announce goes out a kind 24 with the own first and last, and by nothing else
  pub announces : a ≡ Else Announce → Announces e m
  pub announced : m.kind ≡ ANNC → a ≡ Else Announce
  -- a RQST names a cue that the end lacks
  pub lacks : m.kind ≡ RQST → is_held (kept_under e (message_name m)).slot ≡ false
  -- an XPRS too, and its host is the sender of the pair that the end keeps of the source
  pub express : m.kind ≡ XPRS
      → (is_held (kept_under e (message_name m)).slot ≡ false)
      × (is_no_pair (pair_of e (message_name m)) ≡ false)
      × (message_host m ≡ kept_sender (pair_of e (message_name m)))
  -- a REPL names a cue that the end holds, and carries that cue
  pub holds : m.kind ≡ REPL → (is_held (kept_under e (message_name m)).slot ≡ true) × (message_cue m ≡ (kept_under e (message_name m)).cue)
  -- a kind 23 too, and it goes out by an Arrival alone
  pub given : m.kind ≡ LATE → (x : List ℕ) × (a ≡ Arrival x)
  pub late : m.kind ≡ LATE → (is_held (kept_under e (message_name m)).slot ≡ true) × (message_cue m ≡ (kept_under e (message_name m)).cue)

-- bytes that are right to put out: the reader accepts them as a message, and that message is right
pub record RightOut (e : End) (a : Action) (clock : ℕ) (bytes : List ℕ) : Type 0 where
  pub accepted : (read_of bytes).verdict ≡ Accepted
  pub message : RightMessage e a clock (meaning_from bytes)

-- Every Out of every call is right, on any state: one that is not sound is refused and puts nothing out. A cue that is sent has the 24
-- bytes of its declared type.
abbrev pub GoesOutRight : Type 0
GoesOutRight = (e : End) (a : Action) (clock room : ℕ) (draws bytes : List ℕ) → CueArray a
    → (event_of e a clock room draws).outcome ≡ Did (Out bytes) → RightOut e a clock bytes
