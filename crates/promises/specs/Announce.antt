-- Announce and kind 24, document 02, P11: the statements of the crate `guarantees`, Announce. What goes out by an Announce is among `goes_out_right`.
use Rattle.std.specs.Prelude.{◌≡◌, true, List, ◌∷◌, ℕ, ◌≤◌, length}
use Rattle.std.proofs.Math.Option.{Option}
use Rattle.message.specs.declared.Host.{Host}
use Rattle.message.specs.Message.{ANNC, Meaning, meaning_from}
use Rattle.end.specs.declared.Params.{Params}
use Rattle.end.specs.declared.End.{End}
use Rattle.end.specs.State.{with_clock}
use Rattle.end.specs.Answer.{Out, Done, Did}
use Rattle.end.specs.Event.{Action, Arrival, Else, Announce, question_of, event_of}
use Rattle.end.specs.Opening.{opening_of}
use Rattle.end.specs.Book.{Book, brought_to}
use Rattle.end.specs.Run.{CueArray}
use Rattle.invariants.specs.Lates.{FromAnother}
use Rattle.guarantees.specs.Calls.{OneCall, after_all}
use Rattle.guarantees.specs.Arrivals.{is_announced, hear}
use Rattle.guarantees.specs.Fetch.{OutsideBook}
use Rattle.guarantees.specs.Announce.{announce, AnnounceAnswer, trail_in, lead_in, Announcement}

pub record AnnounceKept : Type 0 where
  -- "has a member put out its own first and last as trail and lead in kind 24 ..; without a first it gives Nothing, outside membership Ignored";
  -- nothing changes but the clock, and of a crashed end not even that.
  pub announces-own : (e : End) (clock room : ℕ) (draws : List ℕ) → question_of e (Else Announce) clock room (length draws) ≡ 0
      → AnnounceAnswer e clock (announce e clock room draws)
  -- What it puts out is read as a kind 24 of this end at this clock; "lead is from trail to trail+63".
  pub out_is_announcement : (e : End) (clock room : ℕ) (draws bytes : List ℕ) → (announce e clock room draws).outcome ≡ Did (Out bytes)
      → Announcement e clock bytes
  -- No other event puts out a kind 24.
  pub only_announce_announces : (e : End) (a : Action) (clock room : ℕ) (draws bytes : List ℕ) → CueArray a
      → (event_of e a clock room draws).outcome ≡ Did (Out bytes) → (meaning_from bytes).kind ≡ ANNC → a ≡ Else Announce
  -- "Over a sender's calls neither falls": of two Announces on an end that was opened, whatever calls were made before and between them.
  pub neither_falls : (h : Host) (p : Params) (before between : List OneCall) (clock room clock' room' : ℕ) (draws draws' x y : List ℕ)
      → let e = after_all (opening_of h p).end before in let r = announce e clock room draws in
      let later = announce (after_all r.left between) clock' room' draws' in
      r.outcome ≡ Did (Out x) → later.outcome ≡ Did (Out y) → (trail_in x ≤ trail_in y) × (lead_in x ≤ lead_in y)
  -- "Members answer kind 24 Done": another end's, and nothing changes but the clock.
  pub announced_is_done : (e : End) (b : ℕ) (s : List ℕ) (clock room : ℕ) (draws : List ℕ) → question_of e (Arrival (b ∷ s)) clock room (length draws) ≡ 0
      → FromAnother e ANNC (meaning_from (b ∷ s)) → hear e (b ∷ s) clock room draws ≡ record { outcome = Did Done; left = with_clock e clock }
  -- Neither is in the service's book, and kind 24 brings no number for "the highest number L" (P7).
  pub announce_outside_book : (b : Book) (h : ℕ) → OutsideBook b h (Else Announce)
  pub announced_outside_book : (b : Book) (h : ℕ) (bytes : List ℕ) → is_announced (meaning_from bytes) ≡ true → OutsideBook b h (Arrival bytes)
  pub announced_brings_nothing : (m : Meaning) → is_announced m ≡ true → (s : ℕ) (top : Option ℕ) → brought_to m s top ≡ top
