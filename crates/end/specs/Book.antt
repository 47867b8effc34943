-- The service's book. Document 01, "The service's book". It is fed each call's host, event and arguments, and whether it was refused;
-- the answer and the end's status after the call are held against it. It never sees an end.
use Rattle.std.specs.Prelude.{◌≡◌, Bool, true, false, not, cond, ◌&&◌, ◌||◌, List, [], ◌∷◌, ◌++◌, ℕ, ◌-◌, max, length, get_or, leb, eqb}
use Rattle.std.proofs.Math.Option.{Option, none, some}
use Rattle.std.proofs.Math.ListN.{get_elem?}
use Rattle.message.specs.declared.Report.{Report}
use Rattle.message.specs.Entry.{as_host, as_number}
use Rattle.message.specs.Message.{DATA, RQST, REPL, SESS, XPRS, Meaning, Datagram, Probe, Saying, datagram_from}
use Rattle.message.specs.Question.{read_refusal}
use Rattle.end.specs.declared.Status.{Status}
use Rattle.end.specs.declared.Status.TheVariants.{Idle}
use Rattle.end.specs.State.{is_member}
use Rattle.end.specs.declared.Move.{Move}
use Rattle.end.specs.declared.Move.TheVariants.{Join, Joined, Leave, Left, Crash}
use Rattle.end.specs.Answer.{Effect, Out, Got, Done, Ignored, Outcome, Refused, Did, class_of, hands_out}
use Rattle.end.specs.Arrival.{message_name, message_cue}
use Rattle.end.specs.Event.{Action, Moves, Send, Arrival, Else, moves, moves_to}

-- a function with one value changed
unfoldable pub put : {A : Type 0} → (ℕ → A) → ℕ → A → ℕ → A
put f h x k = cond (eqb k h) x (f k)

-- each host's status; the cues that it filed, by number; and for each host and source the numbers handed out since it joined, in
-- the order in which they were. Document 02, P7: "the book keeps, for each member and source from the first hand-out since joining, the
-- highest number L that unlooped DATA, RQST, REPL and SESS .. brought": none before that
pub record Book : Type 0 where
  pub status : ℕ → Status
  pub filed : ℕ → List (List ℕ)
  pub handed : ℕ → ℕ → List ℕ
  pub highest : ℕ → ℕ → Option ℕ

-- "It starts with every host idle and nothing sent."
abbrev pub empty_book : Book
empty_book = record { status = λ h. Idle; filed = λ h. []; handed = λ h s. []; highest = λ h s. none }

-- ---- messages: the meaning of bytes that the reader accepts; a probe is no message, so the book passes over it
abbrev pub message_in : Datagram Meaning → Option Meaning
message_in Probe = none
message_in (Saying m) = some m

unfoldable pub read_as : List ℕ → Option Meaning
read_as bytes = cond (eqb (read_refusal bytes) 0) (message_in (datagram_from bytes)) none

-- "an original is a DATA, a repair a REPL". Document 02, P9: "Kind 23 is neither an original nor a repair of the service"
abbrev pub is_original : Meaning → Bool
is_original m = eqb m.kind DATA

abbrev pub is_repair : Meaning → Bool
is_repair m = eqb m.kind REPL

abbrev pub source : Meaning → ℕ
source m = (message_name m).source.0

abbrev pub number : Meaning → ℕ
number m = (message_name m).number.0

-- ---- the numbers that a message brings of a source: the number in the name of a DATA, RQST or REPL, and of "what later counts as RQST", an
-- XPRS; the reported last ones of a SESS. The kinds 22 and 23 (P9) and 24 (P11) bring none

-- after a number: "the highest number L", once there is one
unfoldable pub raised_to : ℕ → Option ℕ → Option ℕ
raised_to n none = none
raised_to n (some top) = some (max top n)

unfoldable pub reported_to : ℕ → List Report → Option ℕ → Option ℕ
reported_to s [] top = top
reported_to s (r ∷ rs) top = reported_to s rs (cond (eqb r.source.0 s) (raised_to r.last.0 top) top)

abbrev pub is_about_name : Meaning → Bool
is_about_name m = is_original m || (eqb m.kind RQST || (is_repair m || eqb m.kind XPRS))

unfoldable pub brought_to : Meaning → ℕ → Option ℕ → Option ℕ
brought_to m s top =
    cond (is_about_name m) (cond (eqb (source m) s) (raised_to (number m) top) top)
    (cond (eqb m.kind SESS) (reported_to s m.reports top) top)

-- ---- the limits: "the reader is a member and not the source; the name is filed; its number is not below the first one handed out
-- from that source since joining, if any, and not handed out since joining"
unfoldable pub among : ℕ → List ℕ → Bool
among n [] = false
among n (x ∷ xs) = eqb n x || among n xs

unfoldable pub first_of : List ℕ → Option ℕ
first_of [] = none
first_of (x ∷ xs) = some x

unfoldable pub not_below : Option ℕ → ℕ → Bool
not_below none n = true
not_below (some first) n = leb first n

unfoldable pub is_some : {A : Type 0} → Option A → Bool
is_some none = false
is_some (some a) = true

-- document 02, P7: "Got now also needs a number not below L−63"
unfoldable pub kept : Option ℕ → ℕ → Bool
kept none n = true
kept (some top) n = leb (top - 63) n

unfoldable pub limits : Book → ℕ → ℕ → ℕ → Bool
limits b h s n =
    is_member (b.status h)
    && (not (eqb h s)
    && (is_some (get_elem? (b.filed s) n)
    && (not_below (first_of (b.handed h s)) n && (kept (b.highest h s) n && not (among n (b.handed h s))))))

-- "Got comes exactly when an original, or a repair where there is such a first, isn't looped and meets the limits": looped is a
-- message whose sender is its reader
unfoldable pub gets : Book → ℕ → Meaning → Bool
gets b h m =
    (is_original m || (is_repair m && is_some (first_of (b.handed h (source m)))))
    && (not (eqb m.sender.0 h) && limits b h (source m) (number m))

-- ---- what the book says of the answer to a call that was not refused
pub data Due : Type 0 where
  -- this one
  Exactly : Effect → Due
  -- Out with a DATA of this source, number and cue
  Original : ℕ → ℕ → List ℕ → Due
  -- any but Got
  NeverGot : Due

-- "It has the message's name and the filed cue"
unfoldable pub due_message : Book → ℕ → Option Meaning → Due
due_message b h none = NeverGot
due_message b h (some m) = cond (gets b h m) (Exactly (Got (message_name m) (get_or (b.filed (source m)) (number m) []))) NeverGot

-- "Join, Joined, Leave, Left, Crash: the status moves as under Events, with Done; where it doesn't move, Ignored." "Send: for a
-- member .. Out, a DATA with that name and cue. Otherwise Ignored." "Other Arrivals, Fire, Report, events added later: .. never Got."
unfoldable pub due : Book → ℕ → Action → Due
due b h (Moves m) = cond (moves m (b.status h)) (Exactly Done) (Exactly Ignored)
due b h (Send cue) = cond (is_member (b.status h)) (Original h (length (b.filed h)) cue) (Exactly Ignored)
due b h (Arrival bytes) = due_message b h (read_as bytes)
due b h (Else o) = NeverGot

-- ---- the book after a call that was not refused

-- "the last move to member, which clears the host's handed-out numbers", and with them the highest numbers
unfoldable pub cleared_by : {A : Type 0} → Move → A → (ℕ → A) → ℕ → A
cleared_by Join at_first f s = f s
cleared_by Joined at_first f s = at_first
cleared_by Leave at_first f s = f s
cleared_by Left at_first f s = f s
cleared_by Crash at_first f s = f s

unfoldable pub moved_book : Book → ℕ → Move → Book
moved_book b h m = record {
  status = put b.status h (moves_to m);
  filed = b.filed;
  handed = put b.handed h (cleared_by m [] (b.handed h));
  highest = put b.highest h (cleared_by m none (b.highest h));
}

-- "the cue is filed for good under the host's next number, from 0"
unfoldable pub file : Book → ℕ → List ℕ → Book
file b h cue = record { status = b.status; filed = put b.filed h (b.filed h ++ (cue ∷ [])); handed = b.handed; highest = b.highest }

-- "and the number is now handed out"; with the first one the book begins to keep the highest number that was brought
unfoldable pub higher : Option ℕ → ℕ → ℕ
higher none n = n
higher (some top) n = max top n

unfoldable pub hand : Book → ℕ → ℕ → ℕ → Book
hand b h s n = record {
  status = b.status;
  filed = b.filed;
  handed = put b.handed h (put (b.handed h) s (b.handed h s ++ (n ∷ [])));
  highest = put b.highest h (put (b.highest h) s (some (higher (b.highest h s) n)));
}

-- a message that is not handed out brings its numbers
unfoldable pub bring : Book → ℕ → Meaning → Book
bring b h m = record { status = b.status; filed = b.filed; handed = b.handed; highest = put b.highest h (λ s. brought_to m s (b.highest h s)) }

-- to a member, unless it is looped
unfoldable pub hears : Book → ℕ → Meaning → Bool
hears b h m = is_member (b.status h) && not (eqb m.sender.0 h)

unfoldable pub after_message : Book → ℕ → Option Meaning → Book
after_message b h none = b
after_message b h (some m) = cond (gets b h m) (hand b h (source m) (number m)) (cond (hears b h m) (bring b h m) b)

unfoldable pub after : Book → ℕ → Action → Book
after b h (Moves m) = cond (moves m (b.status h)) (moved_book b h m) b
after b h (Send cue) = cond (is_member (b.status h)) (file b h cue) b
after b h (Arrival bytes) = after_message b h (read_as bytes)
after b h (Else o) = b

-- ---- an answer that is the book's

unfoldable pub is_got : Effect → Bool
is_got a = hands_out (class_of a)

-- the message of a DATA that is put out
pub record IsOriginal (bytes : List ℕ) (s n : ℕ) (cue : List ℕ) : Type 0 where
  pub message : Meaning
  pub reads : read_as bytes ≡ some message
  pub original : is_original message ≡ true
  pub name : message_name message ≡ record { source = as_host s; number = as_number n }
  pub carried : message_cue message ≡ cue

abbrev pub Meets : Due → Effect → Type 0
Meets (Exactly a) x = x ≡ a
Meets (Original s n cue) x = (bytes : List ℕ) × (x ≡ Out bytes) × IsOriginal bytes s n cue
Meets NeverGot x = is_got x ≡ false

-- one call as an onlooker sees it
pub record Entry : Type 0 where
  pub host : ℕ
  pub action : Action
  pub outcome : Outcome
  pub status : Status

-- "Refused: nothing changes."
unfoldable pub book_after : Book → ℕ → Action → Outcome → Book
book_after b h ev (Refused k) = b
book_after b h ev (Did a) = after b h ev

abbrev pub Answered : Book → ℕ → Action → Outcome → Type 0
Answered b h ev (Refused k) = Unit {0}
Answered b h ev (Did a) = Meets (due b h ev) a

-- "A list is a run of the service if after every call the end's status and the answers just named, with their names and cues, are
-- the book's."
abbrev pub RunFrom : Book → List Entry → Type 0
RunFrom b [] = Unit {0}
RunFrom b (x ∷ xs) =
    let b' = book_after b x.host x.action x.outcome in
    Answered b x.host x.action x.outcome × (x.status ≡ b'.status x.host) × RunFrom b' xs
