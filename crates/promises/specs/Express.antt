-- Express repair, document 02, P8: the statements of the crate `guarantees`, Express.
use Rattle.std.specs.Prelude.{◌≡◌, true, List, ◌⊎◌, ℕ, ◌≤◌, ◌<◌, length}
use Rattle.std.proofs.Math.Option.{none}
use Rattle.message.specs.declared.Host.{Host}
use Rattle.message.specs.Entry.{as_host}
use Rattle.message.specs.Message.{XPRS, meaning_from, bytes_of}
use Rattle.end.specs.declared.Params.{Params}
use Rattle.end.specs.declared.Request.{Request}
use Rattle.end.specs.Parts.{Unset, Soon, NoPair}
use Rattle.end.specs.declared.Slot.TheVariants.{Waiting}
use Rattle.end.specs.declared.End.{End}
use Rattle.end.specs.State.{source_at, distance_to, with_clock, on_source}
use Rattle.end.specs.Names.{quiet_reply}
use Rattle.end.specs.Messages.{repair_message}
use Rattle.end.specs.Answer.{Out, Did}
use Rattle.end.specs.Arrival.{message_name}
use Rattle.end.specs.Event.{Action, Arrival, question_of, event_of}
use Rattle.end.specs.Opening.{opening_of}
use Rattle.guarantees.specs.Calls.{moment_at, OneCall, after_all}
use Rattle.guarantees.specs.Records.{record_of, slot_of, request_of, firing}
use Rattle.guarantees.specs.Arrivals.{hear}
use Rattle.guarantees.specs.Fires.{fire}
use Rattle.guarantees.specs.History.{told}
use Rattle.guarantees.specs.Express.{express_of, SetByGap, WentOut, NamedHolder, as_request, pair_after, pair_from}

pub record ExpressKept : Type 0 where
  -- "A member that sets round 1 by a gap before a DATA, not a REPL, and is that requester also sets an express wait, due E ticks on.": no other
  -- call sets one.
  pub express_set_by_gap : (e : End) (a : Action) (clock room : ℕ) (draws : List ℕ) (h n due : ℕ) → h < 8
      → express_of e h n ≡ Unset → express_of (event_of e a clock room draws).left h n ≡ Soon due
      → SetByGap e a clock draws h n (event_of e a clock room draws).left due
  -- An express wait stays, over new rounds of its request too; or it goes with its request; or it was due, Fire has dropped it, and the request
  -- is the very same.
  pub express_stays_or_goes : (e : End) (a : Action) (clock room : ℕ) (draws : List ℕ) (h n : ℕ) (q : Request) (due : ℕ) → h < 8
      → slot_of e h n ≡ Waiting q (Soon due)
      → (express_of (event_of e a clock room draws).left h n ≡ Soon due)
      ⊎ ((express_of (event_of e a clock room draws).left h n ≡ Unset) × (request_of (event_of e a clock room draws).left h n ≡ none))
      ⊎ ((firing a ≡ true) × (due ≤ clock) × (slot_of (event_of e a clock room draws).left h n ≡ Waiting q Unset))
  -- "Fired, it is dropped and goes out as kind 21": where Fire puts out an XPRS, an express wait was due under its name; it is dropped, and
  -- nothing else changes but the clock.
  pub express_goes_out : (e : End) (clock room : ℕ) (draws bytes : List ℕ) → (fire e clock room draws).outcome ≡ Did (Out bytes)
      → (meaning_from bytes).kind ≡ XPRS → WentOut e clock (message_name (meaning_from bytes)) (fire e clock room draws).left
  -- "The named sender, if it holds the cue and clock ≥ reply-quiet, drops its waiting reply, sets reply-quiet as Fire does and answers Out REPL in
  -- that call, with kind 21's sender as requester", and with the held cue.
  pub express-answered : (e : End) (bytes : List ℕ) (clock room : ℕ) (draws : List ℕ) → question_of e (Arrival bytes) clock room (length draws) ≡ 0
      → NamedHolder e clock (meaning_from bytes)
      → let m = meaning_from bytes in let name = message_name m in hear e bytes clock room draws ≡ record {
        outcome = Did (Out (bytes_of (repair_message (moment_at e clock) name m.sender (record_of e name.source.0 name.number.0).cue)));
        left = on_source (with_clock e clock) name.source (quiet_reply (moment_at e clock) name.number.0 (distance_to e m.sender));
      }
  -- "Otherwise it, like every other end, treats kind 21 as RQST from its sender.": the same answer, the same bytes and the same state as from
  -- bytes that are read as that RQST.
  pub express_else_request : (e : End) (bytes asking : List ℕ) (clock room : ℕ) (draws : List ℕ)
      → question_of e (Arrival bytes) clock room (length draws) ≡ 0 → question_of e (Arrival asking) clock room (length draws) ≡ 0
      → (meaning_from bytes).kind ≡ XPRS → meaning_from asking ≡ as_request (meaning_from bytes) → (NamedHolder e clock (meaning_from bytes) → ⊥)
      → hear e bytes clock room draws ≡ hear e asking clock room draws
  -- "Per source an end keeps, until Leave or Crash, the requester and sender of the latest REPL answered Got or Done that named a number at least
  -- as high as the kept one's.": what every call makes of the pair ..
  pub pairs_may_become : (e : End) (a : Action) (clock room : ℕ) (draws : List ℕ) (s : ℕ) → s < 8
      → (source_at (event_of e a clock room draws).left (as_host s)).pair
      ≡ pair_after s (source_at e (as_host s)).pair a (event_of e a clock room draws).outcome
  -- .. and so after any calls on an end that was opened.
  pub pair_over_history : (h : Host) (p : Params) (cs : List OneCall) (s : ℕ) → s < 8
      → (source_at (after_all (opening_of h p).end cs) (as_host s)).pair ≡ pair_from s NoPair (told (opening_of h p).end cs)
