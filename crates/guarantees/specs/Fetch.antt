-- Fetching what came before (document 02, P9), as statements; proofs/Fetch*.antt prove them. "since joining" is taken over the history of an end's
-- calls and answers (History.antt), which looks at no state.
use Rattle.std.specs.Prelude.{◌≡◌, Bool, true, false, cond, not, ◌&&◌, ◌||◌, List, [], ◌∷◌, ◌++◌, ℕ, suc, ◌+◌, ◌≤◌, ◌<◌, length, eqb}
use Rattle.std.proofs.Math.Option.{Option, none, some}
use Rattle.numbers.specs.Bits.{bit}
use Rattle.message.specs.declared.Host.{Host}
use Rattle.message.specs.declared.CueNumber.{CueNumber}
use Rattle.message.specs.declared.Name.{Name}
use Rattle.message.specs.declared.Report.{Report as Reported}
use Rattle.message.specs.Entry.{as_host}
use Rattle.message.specs.Message.{SESS, Meaning, meaning_from}
use Rattle.message.specs.Question.{same_host}
use Rattle.end.specs.declared.Params.{Params}
use Rattle.end.specs.Parts.{NoOrigin, From}
use Rattle.end.specs.declared.Attempt.{Attempt}
use Rattle.end.specs.declared.Source.{Source}
use Rattle.end.specs.declared.End.{End}
use Rattle.end.specs.State.{source_at, is_member, is_crashed, with_clock}
use Rattle.end.specs.Records.{fetchable, attempt_at}
use Rattle.end.specs.Messages.{message_name, message_host}
use Rattle.end.specs.Fetch.{attempt_on, may_fetch, reported_by, untried}
use Rattle.end.specs.Answer.{Class, PutsOut, HandsOut, HandsLate, Untouched, class_of, class_in, hands_out}
use Rattle.end.specs.Answer.{Effect, Out, Ignored, Exhausted, Outcome, Refused, Did, Result, buffer_of}
use Rattle.end.specs.Event.{Action, Moves, Send, Arrival, Else, Other, Fire, Report, Announce, Fetch, question_of, event_of}
use Rattle.end.specs.Opening.{opening_of}
use Rattle.end.specs.Book.{Book, NeverGot, read_as, brought_to, among, due, after}
use Rattle.guarantees.specs.Calls.{OneCall, after_all}
use Rattle.guarantees.specs.Arrivals.{SameEnd, is_fetched, hear}
use Rattle.guarantees.specs.History.{Told, told, is_done, since_joining}

-- a call of the event
abbrev pub fetch : End → Name → ℕ → ℕ → List ℕ → Result
fetch e name clock room draws = event_of e (Else (Fetch name)) clock room draws

-- ---- what a Fetch answers

-- "Candidates are the other hosts whose last heard session message since joining reported that source": `candidate` of the crate end; `untried`
-- is one of them that is "not yet tried for that number since joining"
abbrev pub NoneUntried : End → Name → Type 0
NoneUntried e name = (h : ℕ) → h < 8 → untried e name h ≡ false

-- A member's Fetch that is not refused: Ignored exactly where it may not be made; "to a fetch that isn't Ignored, "exhausted" is answered exactly
-- when no untried candidate is left"; and otherwise Out. That this is kind 22 to the one with the least distance, the lowest of those that are as
-- near, `GoesOutRight` of the crate invariants says.
pub record FetchAnswer (e : End) (name : Name) (o : Outcome) : Type 0 where
  pub ignored : may_fetch e name ≡ false → o ≡ Did Ignored
  pub ignored-only : o ≡ Did Ignored → may_fetch e name ≡ false
  pub exhausted : may_fetch e name ≡ true → NoneUntried e name → o ≡ Did Exhausted
  pub exhausted-only : o ≡ Did Exhausted → (may_fetch e name ≡ true) × NoneUntried e name
  pub tries : may_fetch e name ≡ true → (NoneUntried e name → ⊥) → (bytes : List ℕ) × (o ≡ Did (Out bytes))

abbrev pub ExhaustedExactly : Type 0
ExhaustedExactly = (e : End) (name : Name) (clock room : ℕ) (draws : List ℕ) → question_of e (Else (Fetch name)) clock room (length draws) ≡ 0
    → is_member e.status ≡ true → FetchAnswer e name (fetch e name clock room draws).outcome

-- a call was a member's Fetch that may be made with no untried candidate left; it left the end as it was but for its clock, and every byte of
-- the output
pub record WasExhausted (e : End) (a : Action) (clock : ℕ) (r : Result) : Type 0 where
  pub name : Name
  pub fetched : a ≡ Else (Fetch name)
  pub member : is_member e.status ≡ true
  pub may : may_fetch e name ≡ true
  pub none_left : NoneUntried e name
  pub left : r.left ≡ with_clock e clock
  pub output : (out : List ℕ) → buffer_of r.outcome out ≡ out

-- And no other call answers "exhausted".
abbrev pub ExhaustedMeans : Type 0
ExhaustedMeans = (e : End) (a : Action) (clock room : ℕ) (draws : List ℕ) → (event_of e a clock room draws).outcome ≡ Did Exhausted
    → WasExhausted e a clock (event_of e a clock room draws)

-- An Ignored Fetch leaves the end as it was but for its clock; on a crashed end "nothing changes, clock included" (document 01).
abbrev pub IgnoredFetchStays : Type 0
IgnoredFetchStays = (e : End) (name : Name) (clock room : ℕ) (draws : List ℕ) → (fetch e name clock room draws).outcome ≡ Did Ignored
    → (fetch e name clock room draws).left ≡ cond (is_crashed e.status) e (with_clock e clock)

-- "A member may fetch any of the 64 numbers just below the first original it had since joining from another host"
abbrev pub FetchMayBeMade : Type 0
FetchMayBeMade = (e : End) (name : Name) (first : CueNumber) → name.source.0 < 8 → (source_at e name.source).origin ≡ From first
    → name.number.0 < first.0 → first.0 ≤ name.number.0 + 64 → (attempt_on e name).late ≡ false → may_fetch e name ≡ true

-- "any other fetch, or one already handed out, is Ignored": each that is not refused, alone
pub record OtherFetches (e : End) (name : Name) (o : Outcome) : Type 0 where
  pub no_member : is_member e.status ≡ false → o ≡ Did Ignored
  pub own-source : same_host name.source e.host ≡ true → o ≡ Did Ignored
  pub no_host : 8 ≤ name.source.0 → o ≡ Did Ignored
  pub no_original : (source_at e name.source).origin ≡ NoOrigin → o ≡ Did Ignored
  pub not-below : (first : CueNumber) → (source_at e name.source).origin ≡ From first → first.0 ≤ name.number.0 → o ≡ Did Ignored
  pub too_far_below : (first : CueNumber) → (source_at e name.source).origin ≡ From first → name.number.0 + 64 < first.0 → o ≡ Did Ignored
  pub handed_out : (attempt_on e name).late ≡ true → o ≡ Did Ignored

abbrev pub FetchOtherwiseIgnored : Type 0
FetchOtherwiseIgnored = (e : End) (name : Name) (clock room : ℕ) (draws : List ℕ) → question_of e (Else (Fetch name)) clock room (length draws) ≡ 0
    → OtherFetches e name (fetch e name clock room draws).outcome

-- ---- what a Fetch and the kinds 22 and 23 leave: "Kind 23 is neither an original nor a repair of the service: Late cues lie outside its record of
-- receptions, and first doesn't move."

-- first and last, the count, the pair, the distance, what was heard, every record and the first original are the same
pub record SameSource (s p : Source) : Type 0 where
  pub span : p.span ≡ s.span
  pub missed : p.missed ≡ s.missed
  pub pair : p.pair ≡ s.pair
  pub distance : p.distance ≡ s.distance
  pub heard : p.heard ≡ s.heard
  pub names : p.names ≡ s.names
  pub origin : p.origin ≡ s.origin

abbrev pub is_name : ℕ → ℕ → Name → Bool
is_name s n name = eqb name.source.0 s && eqb name.number.0 n

-- so is all of the end but the clock and what was tried and handed out of this one name; and nothing is Got
pub record Unmoved (e : End) (name : Name) (r : Result) : Type 0 where
  pub same : SameEnd e r.left
  pub sources : (s : ℕ) → s < 8 → SameSource (source_at e (as_host s)) (source_at r.left (as_host s))
  pub attempts : (s n : ℕ) → s < 8 → is_name s n name ≡ false → attempt_at (source_at r.left (as_host s)) n ≡ attempt_at (source_at e (as_host s)) n
  pub never-got : hands_out (class_in r.outcome) ≡ false

abbrev pub FetchMovesNothing : Type 0
FetchMovesNothing = (e : End) (name : Name) (clock room : ℕ) (draws : List ℕ) → Unmoved e name (fetch e name clock room draws)

abbrev pub FetchedMovesNothing : Type 0
FetchedMovesNothing = (e : End) (bytes : List ℕ) (clock room : ℕ) (draws : List ℕ) → is_fetched (meaning_from bytes) ≡ true
    → Unmoved e (message_name (meaning_from bytes)) (hear e bytes clock room draws)

-- In the service's book: the answer is any but Got, and the book is afterwards the same, its record of receptions and the highest number L with it.
pub record OutsideBook (b : Book) (h : ℕ) (a : Action) : Type 0 where
  pub never-got : due b h a ≡ NeverGot
  pub same : after b h a ≡ b

abbrev pub FetchOutsideBook : Type 0
FetchOutsideBook = (b : Book) (h : ℕ) (name : Name) → OutsideBook b h (Else (Fetch name))

abbrev pub FetchedOutsideBook : Type 0
FetchedOutsideBook = (b : Book) (h : ℕ) (bytes : List ℕ) → is_fetched (meaning_from bytes) ≡ true → OutsideBook b h (Arrival bytes)

-- For "the highest number L that unlooped DATA, RQST, REPL and SESS (and what later counts as RQST) brought" (P7): the kinds 22 and 23 bring none.
abbrev pub BringsNothing : Type 0
BringsNothing = (m : Meaning) → is_fetched m ≡ true → (s : ℕ) (top : Option ℕ) → brought_to m s top ≡ top

-- ---- what the history says of one name since the end joined

-- the hosts that were tried for it, in their order, and how often it was handed out as Late
pub record Fetched : Type 0 where
  pub tried : List ℕ
  pub late : ℕ

abbrev pub unfetched : Fetched
unfetched = record { tried = []; late = 0 }

-- a Fetch that put out a message tried the host in the message's name
abbrev pub after_try : Fetched → Class → Fetched
after_try x (PutsOut bytes) = record { tried = x.tried ++ ((message_host (meaning_from bytes)).0 ∷ []); late = x.late }
after_try x (HandsOut name cue) = x
after_try x (HandsLate name cue) = x
after_try x Untouched = x

-- Late under the name, by whatever event
abbrev pub after_late : ℕ → ℕ → Fetched → Class → Fetched
after_late s n x (PutsOut bytes) = x
after_late s n x (HandsOut name cue) = x
after_late s n x (HandsLate name cue) = cond (is_name s n name) (record { tried = x.tried; late = suc x.late }) x
after_late s n x Untouched = x

unfoldable pub fetched_other : ℕ → ℕ → Fetched → Other → Class → Fetched
fetched_other s n x Fire c = x
fetched_other s n x Report c = x
fetched_other s n x Announce c = x
fetched_other s n x (Fetch name) c = cond (is_name s n name) (after_try x c) x

-- a move that is Done begins membership, ends it or lies outside it, as in History.antt
unfoldable pub fetched_action : ℕ → ℕ → Fetched → Action → Effect → Fetched
fetched_action s n x (Moves m) a = cond (is_done a) unfetched x
fetched_action s n x (Send cue) a = x
fetched_action s n x (Arrival bytes) a = x
fetched_action s n x (Else o) a = fetched_other s n x o (class_of a)

unfoldable pub fetched_call : ℕ → ℕ → Fetched → Action → Outcome → Fetched
fetched_call s n x a (Refused k) = x
fetched_call s n x a (Did effect) = fetched_action s n (after_late s n x (class_of effect)) a effect

unfoldable pub fetched_from : ℕ → ℕ → Fetched → List Told → Fetched
fetched_from s n x [] = x
fetched_from s n x (c ∷ cs) = fetched_from s n (fetched_call s n x c.action c.outcome) cs

-- of number n of source s: all of an end's history
abbrev pub fetched_since : ℕ → ℕ → List Told → Fetched
fetched_since s n cs = fetched_from s n unfetched cs

-- ---- what holds after any calls on an end that was opened, refused ones and bytes of any kind among them

-- A host is marked as tried exactly if a Fetch since joining tried it; the Late mark stands exactly if Late was answered since joining.
pub record AsFetched (x : Fetched) (a : Attempt) : Type 0 where
  pub tried : (h : ℕ) → bit a.tried h ≡ among h x.tried
  pub late : x.late ≡ cond a.late 1 0

abbrev pub AttemptsOverHistory : Type 0
AttemptsOverHistory = (h : Host) (p : Params) (cs : List OneCall) (s n : ℕ) → s < 8 → let e = (opening_of h p).end in
    AsFetched (fetched_since s n (told e cs)) (attempt_at (source_at (after_all e cs) (as_host s)) n)

-- "at most once since joining"
abbrev pub LateAtMostOnce : Type 0
LateAtMostOnce = (h : Host) (p : Params) (cs : List OneCall) (s n : ℕ) → s < 8 → let e = (opening_of h p).end in
    (fetched_since s n (told e cs)).late ≤ 1

-- no number comes twice
unfoldable pub different : List ℕ → Bool
different [] = true
different (x ∷ xs) = not (among x xs) && different xs

-- "among those not yet tried for that number since joining": the hosts tried for a number are all different, and other hosts than the end's; so
-- at most seven messages of kind 22 go out for it
pub record OnceEach (me : ℕ) (hosts : List ℕ) : Type 0 where
  pub once : different hosts ≡ true
  pub others : (h : ℕ) → among h hosts ≡ true → (h < 8) × (eqb h me ≡ false)
  pub most : length hosts ≤ 7

abbrev pub TriedOnce : Type 0
TriedOnce = (h : Host) (p : Params) (cs : List OneCall) (s n : ℕ) → s < 8 → let e = (opening_of h p).end in
    OnceEach e.host.0 (fetched_since s n (told e cs)).tried

-- a number lies among the 64 just below the first one that was Got since joining, and was not Got itself since joining
pub record BelowFirstGot (n : ℕ) (handed : List ℕ) : Type 0 where
  pub first : ℕ
  pub more : List ℕ
  pub is : handed ≡ first ∷ more
  pub below : n < first
  pub near : first ≤ n + 64
  pub never-got : among n handed ≡ false

-- So does each number that may be fetched. "one already handed out" is therefore tested by the Late mark alone: a number that was Got is none of
-- these.
abbrev pub FetchableNeverGot : Type 0
FetchableNeverGot = (h : Host) (p : Params) (cs : List OneCall) (s n : ℕ) → s < 8 → let e = (opening_of h p).end in
    fetchable (source_at (after_all e cs) (as_host s)).origin n ≡ true → BelowFirstGot n (since_joining e.host.0 s (told e cs)).handed

-- And what was handed out as Late since joining.
abbrev pub LateNeverGot : Type 0
LateNeverGot = (h : Host) (p : Params) (cs : List OneCall) (s n : ℕ) → s < 8 → let e = (opening_of h p).end in
    1 ≤ (fetched_since s n (told e cs)).late → BelowFirstGot n (since_joining e.host.0 s (told e cs)).handed

-- ---- the candidates over the history: "the other hosts whose last heard session message since joining reported that source"

-- a report of source s is among these
unfoldable pub reports : List Reported → ℕ → Bool
reports [] s = false
reports (r ∷ rs) s = eqb r.source.0 s || reports rs s

-- a session message of host h that a member takes is answered Done, and it is the last one heard then
unfoldable pub reported_read : ℕ → ℕ → Bool → Option Meaning → Effect → Bool
reported_read h s was none a = was
reported_read h s was (some m) a = cond (eqb m.kind SESS && (eqb m.sender.0 h && is_done a)) (reports m.reports s) was

unfoldable pub reported_action : ℕ → ℕ → Bool → Action → Effect → Bool
reported_action h s was (Moves m) a = cond (is_done a) false was
reported_action h s was (Send cue) a = was
reported_action h s was (Arrival bytes) a = reported_read h s was (read_as bytes) a
reported_action h s was (Else o) a = was

unfoldable pub reported_call : ℕ → ℕ → Bool → Action → Outcome → Bool
reported_call h s was a (Refused k) = was
reported_call h s was a (Did effect) = reported_action h s was a effect

unfoldable pub reported_from : ℕ → ℕ → Bool → List Told → Bool
reported_from h s was [] = was
reported_from h s was (c ∷ cs) = reported_from h s (reported_call h s was c.action c.outcome) cs

-- After any calls on an end that was opened, an end keeps of host h that it reported source s exactly if the history says so.
abbrev pub ReportedOverHistory : Type 0
ReportedOverHistory = (host : Host) (p : Params) (cs : List OneCall) (h s : ℕ) → h < 8 → let e = (opening_of host p).end in
    reported_by (source_at (after_all e cs) (as_host h)).heard (as_host s) ≡ reported_from h s false (told e cs)
