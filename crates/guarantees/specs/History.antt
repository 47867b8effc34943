-- The count of missed numbers, taken over the history of one end; proofs/History*.antt prove the statements. Document 02, P7: "Per source
-- the end counts the numbers retired without a cue since joining, those passed over in one rise included; this equals the count taken over
-- the history of events." The history is the list of the end's calls with their answers: nothing here looks at a state.
use Rattle.std.specs.Prelude.{◌≡◌, Bool, true, false, cond, ◌&&◌, List, [], ◌∷◌, ◌++◌, ℕ, ◌-◌, ◌<◌, eqb}
use Rattle.std.proofs.Math.Option.{Option, none, some}
use Rattle.message.specs.declared.Host.{Host}
use Rattle.message.specs.Entry.{as_host, as_number}
use Rattle.message.specs.Message.{Meaning}
use Rattle.end.specs.declared.Params.{Params}
use Rattle.end.specs.Parts.{Span, Closed, Open, Origin, NoOrigin, From}
use Rattle.end.specs.declared.Source.{Source}
use Rattle.end.specs.declared.End.{End}
use Rattle.end.specs.State.{source_at, is_member}
use Rattle.end.specs.Records.{within}
use Rattle.end.specs.Names.{holds_cue, lacking, first_after}
use Rattle.end.specs.Answer.{Effect, Out, Got, Done, Ignored, Nothing, Clash, Late, Exhausted, Class, PutsOut, HandsOut, HandsLate, Untouched, class_of, Outcome, Refused, Did}
use Rattle.end.specs.Event.{Action, Moves, Send, Arrival, Else, event_of}
use Rattle.end.specs.Opening.{opening_of}
use Rattle.end.specs.Book.{read_as, brought_to, higher, among}
use Rattle.guarantees.specs.Calls.{OneCall, after, after_all}

-- ---- the history

-- one call: its event with the arguments, and how it was answered
pub record Told : Type 0 where
  pub action : Action
  pub outcome : Outcome

-- the calls on an end one after the other, each on the state that the last one left
unfoldable pub told : End → List OneCall → List Told
told e [] = []
told e (c ∷ cs) = record { action = c.action; outcome = (event_of e c.action c.clock c.room c.draws).outcome } ∷ told (after e c) cs

-- ---- what it says of one source since the end joined

-- the numbers handed out, in their order; and from the first of them on the highest number L that was brought
pub record Since : Type 0 where
  pub handed : List ℕ
  pub highest : Option ℕ

abbrev pub nothing_yet : Since
nothing_yet = record { handed = []; highest = none }

abbrev pub handing : ℕ → Since → Since
handing n x = record { handed = x.handed ++ (n ∷ []); highest = some (higher x.highest n) }

-- "the highest number L that unlooped DATA, RQST, REPL and SESS .. brought", and what counts as RQST: looped is a message whose sender is the
-- end itself
abbrev pub bringing : ℕ → Meaning → ℕ → Since → Since
bringing me m s x = cond (eqb m.sender.0 me) x (record { handed = x.handed; highest = brought_to m s x.highest })

-- a message and what was written to the output: a cue is handed out under the answer's name; if none is, the message brings its numbers. P9:
-- "Late cues lie outside its record of receptions"
unfoldable pub since_message : ℕ → ℕ → Since → Meaning → Class → Since
since_message me s x m (HandsOut name cue) = cond (eqb name.source.0 s) (handing name.number.0 x) x
since_message me s x m (PutsOut bytes) = bringing me m s x
since_message me s x m (HandsLate name cue) = bringing me m s x
since_message me s x m Untouched = bringing me m s x

unfoldable pub since_read : ℕ → ℕ → Since → Option Meaning → Class → Since
since_read me s x none c = x
since_read me s x (some m) c = since_message me s x m c

abbrev pub is_done : Effect → Bool
is_done (Out bytes) = false
is_done (Got name cue) = false
is_done Done = true
is_done Ignored = false
is_done Nothing = false
is_done (Clash name) = false
is_done (Late name cue) = false
is_done Exhausted = false

-- A move that is Done begins membership, ends it or lies outside it: after it nothing has happened since joining. Outside membership nothing
-- is handed out, so nothing is kept there.
unfoldable pub since_action : ℕ → ℕ → Since → Action → Effect → Since
since_action me s x (Moves m) a = cond (is_done a) nothing_yet x
since_action me s x (Send cue) a = x
since_action me s x (Arrival bytes) a = since_read me s x (read_as bytes) (class_of a)
since_action me s x (Else o) a = x

-- a refused call is as none
unfoldable pub since_call : ℕ → ℕ → Since → Action → Outcome → Since
since_call me s x a (Refused k) = x
since_call me s x a (Did effect) = since_action me s x a effect

unfoldable pub since_from : ℕ → ℕ → Since → List Told → Since
since_from me s x [] = x
since_from me s x (c ∷ cs) = since_from me s (since_call me s x c.action c.outcome) cs

-- of the end of host `me`, source s: all of its history
abbrev pub since_joining : ℕ → ℕ → List Told → Since
since_joining me s cs = since_from me s nothing_yet cs

-- ---- the count taken over it

-- of the numbers from the first one handed out, up to but without the greater of it and L−63, those that were not handed out
unfoldable pub count_over : List ℕ → Option ℕ → ℕ
count_over [] highest = 0
count_over (first ∷ more) none = 0
count_over (first ∷ more) (some l) = lacking (λ n. among n (first ∷ more)) (first_after first l - first) first

abbrev pub counted : Since → ℕ
counted x = count_over x.handed x.highest

-- first and last as the history has them: "first becomes the greater of itself and L−63"
unfoldable pub span_over : List ℕ → Option ℕ → Span
span_over [] highest = Closed
span_over (first ∷ more) none = Closed
span_over (first ∷ more) (some l) = Open (as_number (first_after first l)) (as_number l)

abbrev pub span_since : Since → Span
span_since x = span_over x.handed x.highest

-- the first original, which is the first number handed out: document 02, P9, "the first original it had since joining from another host"
unfoldable pub origin_over : List ℕ → Origin
origin_over [] = NoOrigin
origin_over (first ∷ more) = From (as_number first)

-- ---- the end has counted what the history says

-- Of a source: the count; of another's source, first and last too, the first original, and which cues are held: those handed out and not
-- retired. The own source is never handed out, so its count is 0, and it has no first original of another host.
pub record AsTold (me s : ℕ) (x : Since) (source : Source) : Type 0 where
  pub count : source.missed ≡ counted x
  pub own : eqb s me ≡ true → source.missed ≡ 0
  pub span : eqb s me ≡ false → source.span ≡ span_since x
  pub origin : eqb s me ≡ false → source.origin ≡ origin_over x.handed
  pub own_origin : eqb s me ≡ true → source.origin ≡ NoOrigin
  pub held : eqb s me ≡ false → (n : ℕ) → holds_cue source n ≡ (within (span_since x) n && among n x.handed)

-- After any calls on an end that was opened, refused ones and bytes of any kind among them, every source is as the history of these calls
-- says; and on an end that is not a member every count is 0.
abbrev pub CountOverHistory : Type 0
CountOverHistory = (h : Host) (p : Params) (cs : List OneCall) (s : ℕ) → s < 8 → let e = (opening_of h p).end in
    AsTold e.host.0 s (since_joining e.host.0 s (told e cs)) (source_at (after_all e cs) (as_host s))

abbrev pub NonMembersCountNone : Type 0
NonMembersCountNone = (h : Host) (p : Params) (cs : List OneCall) (s : ℕ) → s < 8 → let left = after_all (opening_of h p).end cs in
    is_member left.status ≡ false → (source_at left (as_host s)).missed ≡ 0
