-- The lists of calls that demand 3 speaks of, and demand 3. Document 01, "The service's book", first paragraph.
use Rattle.std.specs.Prelude.{◌≡◌, ◌⊎◌, ℕ, ◌<◌, length}
use mathlib.Core.List.{List, [], ◌∷◌, Memᴰ}
use Rattle.std.proofs.Math.Option.{some}
use Rattle.message.specs.Entry.{as_host}
use Rattle.message.specs.Message.{RQST, Meaning}
use Rattle.message.specs.declared.Verdict.TheVariants.{Accepted}
use Rattle.end.specs.declared.Params.{Params}
use Rattle.end.specs.declared.End.{End}
use Rattle.end.specs.Answer.{Class, PutsOut, HandsOut, HandsLate, Untouched, class_in, Outcome, Refused, Did, Result}
use Rattle.end.specs.Event.{Action, Moves, Send, Arrival, Else, event_of}
use Rattle.end.specs.Opening.{opening_of}
use Rattle.end.specs.Book.{put, Entry, RunFrom, empty_book, read_as}

-- A call: the host whose end it is made on, the event with its arguments, the clock, the output that is lent and the draws; any of
-- them may be such that the call is refused.
pub record Call : Type 0 where
  pub host : ℕ
  pub action : Action
  pub clock : ℕ
  pub output : List ℕ
  pub draws : List ℕ

-- the ends as their last calls left them, and the bytes put out so far
pub record World : Type 0 where
  pub ends : ℕ → End
  pub sent : List (List ℕ)

-- "Each call gets the state that its end's last call left"
unfoldable pub result_of : World → Call → Result
result_of w c = event_of (w.ends c.host) c.action c.clock (length c.output) c.draws

abbrev pub sent_by : Class → List (List ℕ) → List (List ℕ)
sent_by (PutsOut bytes) l = bytes ∷ l
sent_by (HandsOut name cue) l = l
sent_by (HandsLate name cue) l = l
sent_by Untouched l = l

unfoldable pub sent_after : Outcome → List (List ℕ) → List (List ℕ)
sent_after o l = sent_by (class_in o) l

unfoldable pub world_after : World → ℕ → Result → World
world_after w h r = record { ends = put w.ends h r.left; sent = sent_after r.outcome w.sent }

-- what an onlooker sees of a list of calls
unfoldable pub seen : World → List Call → List Entry
seen w [] = []
seen w (c ∷ cs) =
    record { host = c.host; action = c.action; outcome = (result_of w c).outcome; status = (result_of w c).left.status }
    ∷ seen (world_after w c.host (result_of w c)) cs

-- document 02, P11, of a display: "In the service's runs its RQSTs may arrive." Here any accepted RQST may, whoever asks by it and for
-- whatever, which is more than is asked: a display's are among them (`display_history`: Foyer.antt)
abbrev pub AnyRequest : List ℕ → Type 0
AnyRequest bytes = (m : Meaning) × (read_as bytes ≡ some m) × (m.kind ≡ RQST)

-- "An unrefused Arrival brings the bytes that an earlier Out of the list, any end's, put out." An empty datagram, by document 02, P5, "may
-- come from anywhere"
abbrev pub FromOut : List (List ℕ) → List ℕ → Type 0
FromOut l [] = Unit {0}
FromOut l (b ∷ s) = Memᴰ (b ∷ s) l ⊎ AnyRequest (b ∷ s)

abbrev pub Brought : List (List ℕ) → Action → Outcome → Type 0
Brought l (Moves m) o = Unit {0}
Brought l (Send cue) o = Unit {0}
Brought l (Arrival bytes) (Refused k) = Unit {0}
Brought l (Arrival bytes) (Did a) = FromOut l bytes
Brought l (Else e) o = Unit {0}

-- a cue that is sent has the 24 bytes of its declared type
abbrev pub CueArray : Action → Type 0
CueArray (Moves m) = Unit {0}
CueArray (Send cue) = length cue ≡ 24
CueArray (Arrival bytes) = Unit {0}
CueArray (Else e) = Unit {0}

-- the lists that demand 3 speaks of: a host's calls are on its own end
abbrev pub Allowed : World → List Call → Type 0
Allowed w [] = Unit {0}
Allowed w (c ∷ cs) =
    (c.host < 8)
    × CueArray c.action
    × Brought w.sent c.action (result_of w c).outcome
    × Allowed (world_after w c.host (result_of w c)) cs

-- "on ends from openings not refused, at most one per host": each of the eight hosts has one; a list on fewer ends never calls the
-- others
pub record Fresh (w : World) : Type 0 where
  pub ends : (h : ℕ) → h < 8 → (p : Params) × (opening_of (as_host h) p ≡ record { verdict = Accepted; end = w.ends h })
  pub sent : w.sent ≡ []

-- Demand 3, in the customer's words: "the list is a run of the reliable multicast service by document 01's book".
abbrev pub Service : Type 0
Service = (w : World) → Fresh w → (cs : List Call) → Allowed w cs → RunFrom empty_book (seen w cs)
