-- Announce and kind 24 (document 02, P11), as statements; proofs/Announce.antt proves them, those of the book proofs/FetchBook.antt. "A new
-- event Announce has a member put out its own first and last as trail and lead in kind 24, two names laid out as kind 18's with the sender as
-- source and host".
use Rattle.std.specs.Prelude.{◌≡◌, true, false, cond, List, ◌∷◌, ℕ, ◌+◌, ◌≤◌, length, get_or}
use Rattle.std.proofs.Math.Option.{Option}
use Rattle.message.specs.declared.Host.{Host}
use Rattle.message.specs.declared.CueNumber.{CueNumber}
use Rattle.message.specs.Entry.{blank_name}
use Rattle.message.specs.Message.{ANNC, Meaning, meaning_from, bytes_of}
use Rattle.message.specs.Question.{read_of}
use Rattle.message.specs.declared.Verdict.TheVariants.{Accepted}
use Rattle.end.specs.declared.Params.{Params}
use Rattle.end.specs.Parts.{Span, Closed, Open}
use Rattle.end.specs.declared.End.{End}
use Rattle.end.specs.State.{source_at, is_member, is_crashed, with_clock}
use Rattle.end.specs.Messages.{announce_message}
use Rattle.end.specs.Answer.{Out, Done, Ignored, Nothing, Did, Result}
use Rattle.end.specs.Event.{Action, Arrival, Else, Announce, question_of, event_of}
use Rattle.end.specs.Opening.{opening_of}
use Rattle.end.specs.Book.{Book, brought_to}
use Rattle.end.specs.Run.{CueArray}
use Rattle.invariants.specs.Lates.{FromAnother}
use Rattle.guarantees.specs.Calls.{moment_at, OneCall, after_all}
use Rattle.guarantees.specs.Arrivals.{is_announced, hear}
use Rattle.guarantees.specs.Fetch.{OutsideBook}

-- a call of the event
abbrev pub announce : End → ℕ → ℕ → List ℕ → Result
announce e clock room draws = event_of e (Else Announce) clock room draws

-- first and last of the end's own source
abbrev pub own_span : End → Span
own_span e = (source_at e e.host).span

-- ---- what an Announce answers

-- One that is not refused: a member with a first puts out kind 24 with its own first and last; "without a first it gives Nothing, outside
-- membership Ignored". Nothing changes but the clock; on a crashed end not even that (document 01).
pub record AnnounceAnswer (e : End) (clock : ℕ) (r : Result) : Type 0 where
  pub puts-out : is_member e.status ≡ true → (first last : CueNumber) → own_span e ≡ Open first last
      → r ≡ record { outcome = Did (Out (bytes_of (announce_message (moment_at e clock) first last))); left = with_clock e clock }
  pub without_first_lem : is_member e.status ≡ true → own_span e ≡ Closed → r ≡ record { outcome = Did Nothing; left = with_clock e clock }
  pub no_member : is_member e.status ≡ false → r ≡ record { outcome = Did Ignored; left = cond (is_crashed e.status) e (with_clock e clock) }

abbrev pub AnnouncesOwn : Type 0
AnnouncesOwn = (e : End) (clock room : ℕ) (draws : List ℕ) → question_of e (Else Announce) clock room (length draws) ≡ 0
    → AnnounceAnswer e clock (announce e clock room draws)

-- ---- what it puts out

-- the numbers of the two names of bytes that are read back
abbrev pub trail_in : List ℕ → ℕ
trail_in bytes = (get_or (meaning_from bytes).names 0 blank_name).name.number.0

abbrev pub lead_in : List ℕ → ℕ
lead_in bytes = (get_or (meaning_from bytes).names 1 blank_name).name.number.0

-- bytes that the reader accepts as a kind 24 of this end at this clock; "lead is from trail to trail+63"
pub record Announcement (e : End) (clock : ℕ) (bytes : List ℕ) : Type 0 where
  pub accepted : (read_of bytes).verdict ≡ Accepted
  pub kind : (meaning_from bytes).kind ≡ ANNC
  pub two : length (meaning_from bytes).names ≡ 2
  pub sender : (meaning_from bytes).sender ≡ e.host
  pub stamp : (meaning_from bytes).stamp ≡ clock
  pub rising : trail_in bytes ≤ lead_in bytes
  pub window : lead_in bytes ≤ trail_in bytes + 63

-- Every Out of an Announce is such, on any state: one that is not sound is refused.
abbrev pub OutIsAnnouncement : Type 0
OutIsAnnouncement = (e : End) (clock room : ℕ) (draws bytes : List ℕ) → (announce e clock room draws).outcome ≡ Did (Out bytes)
    → Announcement e clock bytes

-- And no other event puts out a kind 24.
abbrev pub OnlyAnnounceAnnounces : Type 0
OnlyAnnounceAnnounces = (e : End) (a : Action) (clock room : ℕ) (draws bytes : List ℕ) → CueArray a
    → (event_of e a clock room draws).outcome ≡ Did (Out bytes) → (meaning_from bytes).kind ≡ ANNC → a ≡ Else Announce

-- "Over a sender's calls neither falls": of two Announces on an end that was opened, both of which put something out, the later has no lower trail
-- and no lower lead than the earlier. Before and between them may be any calls: refused ones, bytes of any kind, a Leave and another Join. An end
-- that is opened anew is another sender: "at most one per host" (document 01).
abbrev pub NeitherFalls : Type 0
NeitherFalls = (h : Host) (p : Params) (before between : List OneCall) (clock room clock' room' : ℕ) (draws draws' x y : List ℕ)
    → let e = after_all (opening_of h p).end before in let r = announce e clock room draws in
    let later = announce (after_all r.left between) clock' room' draws' in
    r.outcome ≡ Did (Out x) → later.outcome ≡ Did (Out y) → (trail_in x ≤ trail_in y) × (lead_in x ≤ lead_in y)

-- ---- kind 24 at an end

-- "Members answer kind 24 Done": another end's, since "an arrival whose sender is oneself" is Ignored (document 01); and nothing changes but the clock.
abbrev pub AnnouncedIsDone : Type 0
AnnouncedIsDone = (e : End) (b : ℕ) (s : List ℕ) (clock room : ℕ) (draws : List ℕ) → question_of e (Arrival (b ∷ s)) clock room (length draws) ≡ 0
    → FromAnother e ANNC (meaning_from (b ∷ s)) → hear e (b ∷ s) clock room draws ≡ record { outcome = Did Done; left = with_clock e clock }

-- Neither the event nor the message is in the service's book: never Got, and the book is afterwards the same. Kind 24 brings no number for "the
-- highest number L" (P7).
abbrev pub AnnounceOutsideBook : Type 0
AnnounceOutsideBook = (b : Book) (h : ℕ) → OutsideBook b h (Else Announce)

abbrev pub AnnouncedOutsideBook : Type 0
AnnouncedOutsideBook = (b : Book) (h : ℕ) (bytes : List ℕ) → is_announced (meaning_from bytes) ≡ true → OutsideBook b h (Arrival bytes)

abbrev pub AnnouncedBringsNothing : Type 0
AnnouncedBringsNothing = (m : Meaning) → is_announced m ≡ true → (s : ℕ) (top : Option ℕ) → brought_to m s top ≡ top
