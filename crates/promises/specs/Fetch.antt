-- Fetching what came before, document 02, P9: the statements of the crate `guarantees`, Fetch, and of the crate `invariants`, Lates.
use Rattle.std.specs.Prelude.{◌≡◌, true, false, cond, not, ◌&&◌, List, ◌∷◌, ℕ, ◌+◌, ◌≤◌, ◌<◌, length}
use Rattle.std.proofs.Math.Option.{Option}
use Rattle.numbers.specs.Bits.{bit}
use Rattle.message.specs.declared.Host.{Host}
use Rattle.message.specs.declared.CueNumber.{CueNumber}
use Rattle.message.specs.declared.Name.{Name}
use Rattle.message.specs.Entry.{as_host}
use Rattle.message.specs.Message.{FTCH, LATE, Meaning, meaning_from, bytes_of}
use Rattle.message.specs.Question.{same_host}
use Rattle.end.specs.declared.Params.{Params}
use Rattle.end.specs.Parts.{From}
use Rattle.end.specs.declared.End.{End}
use Rattle.end.specs.State.{source_at, is_member, is_crashed, moment_of, with_clock, on_source}
use Rattle.end.specs.Records.{is_held, fetchable, attempt_at}
use Rattle.end.specs.Messages.{message_name, message_host, message_cue, fetched_message}
use Rattle.end.specs.Answer.{Out, Ignored, Late, Exhausted, give, done, Did}
use Rattle.end.specs.Fetch.{hands_late, attempt_on, may_fetch, reported_by}
use Rattle.end.specs.Event.{Action, Arrival, Else, Fetch, question_of, event_of}
use Rattle.end.specs.Opening.{opening_of}
use Rattle.end.specs.Book.{Book, brought_to}
use Rattle.invariants.specs.Outputs.{kept_under}
use Rattle.invariants.specs.Lates.{FromAnother, RightLate}
use Rattle.guarantees.specs.Calls.{OneCall, after_all}
use Rattle.guarantees.specs.Arrivals.{is_fetched, hear}
use Rattle.guarantees.specs.History.{told, since_joining}
use Rattle.guarantees.specs.Fetch.{fetch, FetchAnswer, WasExhausted, OtherFetches, Unmoved, OutsideBook}
use Rattle.guarantees.specs.Fetch.{fetched_since, AsFetched, OnceEach, BelowFirstGot, reported_from}

pub record FetchKept : Type 0 where
  -- A member's Fetch that is not refused is Ignored exactly where it may not be made; "to a fetch that isn't Ignored, "exhausted" is answered
  -- exactly when no untried candidate is left"; otherwise it puts out the kind 22 that `goes_out_right` says.
  pub exhausted_exactly : (e : End) (name : Name) (clock room : ℕ) (draws : List ℕ) → question_of e (Else (Fetch name)) clock room (length draws) ≡ 0
      → is_member e.status ≡ true → FetchAnswer e name (fetch e name clock room draws).outcome
  -- No other call answers "exhausted", and such a Fetch leaves the end as it was but for its clock, and every byte of the output.
  pub exhausted-means : (e : End) (a : Action) (clock room : ℕ) (draws : List ℕ) → (event_of e a clock room draws).outcome ≡ Did Exhausted
      → WasExhausted e a clock (event_of e a clock room draws)
  -- So does an Ignored Fetch; on a crashed end "nothing changes, clock included".
  pub ignored_fetch_stays : (e : End) (name : Name) (clock room : ℕ) (draws : List ℕ) → (fetch e name clock room draws).outcome ≡ Did Ignored
      → (fetch e name clock room draws).left ≡ cond (is_crashed e.status) e (with_clock e clock)
  -- "A member may fetch any of the 64 numbers just below the first original it had since joining from another host"
  pub fetch_may_be_made : (e : End) (name : Name) (first : CueNumber) → name.source.0 < 8 → (source_at e name.source).origin ≡ From first
      → name.number.0 < first.0 → first.0 ≤ name.number.0 + 64 → (attempt_on e name).late ≡ false → may_fetch e name ≡ true
  -- "any other fetch, or one already handed out, is Ignored": each alone.
  pub fetch_otherwise_ignored : (e : End) (name : Name) (clock room : ℕ) (draws : List ℕ)
      → question_of e (Else (Fetch name)) clock room (length draws) ≡ 0 → OtherFetches e name (fetch e name clock room draws).outcome
  -- "The tried host answers with kind 23 in that call if it holds the cue": to another end's kind 22 a member answers so, or Ignored.
  pub fetch-answered : (e : End) (b : ℕ) (s : List ℕ) (clock room : ℕ) (draws : List ℕ) → question_of e (Arrival (b ∷ s)) clock room (length draws) ≡ 0
      → let m = meaning_from (b ∷ s) in let held = kept_under e (message_name m) in let now = with_clock e clock in FromAnother e FTCH m
      → event_of e (Arrival (b ∷ s)) clock room draws
      ≡ done (cond (same_host (message_host m) e.host && is_held held.slot)
      (give (Out (bytes_of (fetched_message (moment_of now) (message_name m) m.sender held.cue))) now)
      (give Ignored now))
  -- "Its requester hands it out as Late, written as Got is, if it has tried that sender for the number since joining, at most once since joining":
  -- to another end's kind 23 a member answers so, or Ignored.
  pub late-answered : (e : End) (b : ℕ) (s : List ℕ) (clock room : ℕ) (draws : List ℕ) → question_of e (Arrival (b ∷ s)) clock room (length draws) ≡ 0
      → let m = meaning_from (b ∷ s) in let name = message_name m in let now = with_clock e clock in FromAnother e LATE m
      → event_of e (Arrival (b ∷ s)) clock room draws
      ≡ done (cond (same_host (message_host m) e.host && (bit (attempt_on e name).tried m.sender.0 && not (attempt_on e name).late))
      (give (Late name (message_cue m)) (on_source now name.source (hands_late name.number.0)))
      (give Ignored now))
  -- Every Late of every call is right, on any state.
  pub late_is_right : (e : End) (a : Action) (clock room : ℕ) (draws : List ℕ) (name : Name) (cue : List ℕ)
      → (event_of e a clock room draws).outcome ≡ Did (Late name cue) → RightLate e a name cue (event_of e a clock room draws).outcome
  -- "Late cues lie outside its record of receptions, and first doesn't move.": a Fetch and the kinds 22 and 23 change nothing but the clock and what
  -- was tried and handed out of their name, and are never Got.
  pub fetch_moves_nothing : (e : End) (name : Name) (clock room : ℕ) (draws : List ℕ) → Unmoved e name (fetch e name clock room draws)
  pub fetched_moves_nothing : (e : End) (bytes : List ℕ) (clock room : ℕ) (draws : List ℕ) → is_fetched (meaning_from bytes) ≡ true
      → Unmoved e (message_name (meaning_from bytes)) (hear e bytes clock room draws)
  -- In the service's book too: none of them is Got, and the book is afterwards the same.
  pub fetch_outside_book : (b : Book) (h : ℕ) (name : Name) → OutsideBook b h (Else (Fetch name))
  pub fetched_outside_book : (b : Book) (h : ℕ) (bytes : List ℕ) → is_fetched (meaning_from bytes) ≡ true → OutsideBook b h (Arrival bytes)
  -- The kinds 22 and 23 bring no number for "the highest number L" (P7).
  pub brings-nothing : (m : Meaning) → is_fetched m ≡ true → (s : ℕ) (top : Option ℕ) → brought_to m s top ≡ top
  -- After any calls on an end that was opened: a host is marked as tried exactly if a Fetch since joining tried it, and the Late mark stands
  -- exactly if Late was answered since joining.
  pub attempts_over_history : (h : Host) (p : Params) (cs : List OneCall) (s n : ℕ) → s < 8
      → AsFetched (fetched_since s n (told (opening_of h p).end cs)) (attempt_at (source_at (after_all (opening_of h p).end cs) (as_host s)) n)
  -- "at most once since joining"
  pub late_at_most_once : (h : Host) (p : Params) (cs : List OneCall) (s n : ℕ) → s < 8 → (fetched_since s n (told (opening_of h p).end cs)).late ≤ 1
  -- "among those not yet tried for that number since joining": each other host at most once, so at most seven.
  pub tried-once : (h : Host) (p : Params) (cs : List OneCall) (s n : ℕ) → s < 8
      → OnceEach (opening_of h p).end.host.0 (fetched_since s n (told (opening_of h p).end cs)).tried
  -- Each number that may be fetched lies among the 64 just below the first one that was Got since joining, and was not Got itself since joining;
  -- so "one already handed out" is tested by the Late mark alone.
  pub fetchable_never_got : (h : Host) (p : Params) (cs : List OneCall) (s n : ℕ) → s < 8
      → fetchable (source_at (after_all (opening_of h p).end cs) (as_host s)).origin n ≡ true
      → BelowFirstGot n (since_joining (opening_of h p).end.host.0 s (told (opening_of h p).end cs)).handed
  -- So does what was handed out as Late since joining.
  pub late_never_got : (h : Host) (p : Params) (cs : List OneCall) (s n : ℕ) → s < 8 → 1 ≤ (fetched_since s n (told (opening_of h p).end cs)).late
      → BelowFirstGot n (since_joining (opening_of h p).end.host.0 s (told (opening_of h p).end cs)).handed
  -- "whose last heard session message since joining reported that source": what an end keeps of it is what the history says.
  pub reported_over_history : (host : Host) (p : Params) (cs : List OneCall) (h s : ℕ) → h < 8
      → reported_by (source_at (after_all (opening_of host p).end cs) (as_host h)).heard (as_host s) ≡ reported_from h s false (told (opening_of host p).end cs)
