-- How requests back off, with and without an express wait beside them: the statements of the crate `guarantees`, BackOff.
use Rattle.std.specs.Prelude.{◌≡◌, true, false, List, ◌⊎◌, ℕ, ◌+◌, ◌-◌, ◌*◌, ◌^◌, ◌≤◌, ◌<◌, min, max, length}
use Rattle.std.proofs.Math.Option.{some}
use Rattle.message.specs.declared.Host.{Host}
use Rattle.message.specs.Entry.{as_host}
use Rattle.message.specs.Message.{meaning_from}
use Rattle.end.specs.declared.Params.{Params}
use Rattle.end.specs.declared.Request.{Request}
use Rattle.end.specs.declared.End.{End}
use Rattle.end.specs.State.{source_at, distance_to, with_clock}
use Rattle.end.specs.Records.{is_below, is_held}
use Rattle.end.specs.Sound.{time_limit, sound_of}
use Rattle.end.specs.Round.{Drawn, factor, share, eighth_up, half_trip}
use Rattle.end.specs.Answer.{Out, Ignored, Did}
use Rattle.end.specs.Arrival.{message_name}
use Rattle.end.specs.Event.{Action, Arrival, question_of, event_of}
use Rattle.end.specs.Opening.{opening_of}
use Rattle.guarantees.specs.Calls.{moment_at, OneCall, after_all}
use Rattle.guarantees.specs.Records.{record_of, slot_of, request_of, clearing, retired, MayBecome}
use Rattle.guarantees.specs.Arrivals.{hear}
use Rattle.guarantees.specs.Fires.{fire, FireTaken}
use Rattle.guarantees.specs.BackOff.{cause_of, asks_for, SetNow, Hearing, heard_all, AllBy, WaitsThrough, SetIn, DrawsFit, CuesAreArrays, NoneAfter}

pub record BackOffKept : Type 0 where
  -- The share of a wait (document 02, P1): nothing for draw 0, the whole wait for draw 65535, never above the wait, never falling in the draw.
  pub share-none : (wait : ℕ) → share wait 0 ≡ 0
  pub share-whole : (wait : ℕ) → share wait 65535 ≡ wait
  pub share-most : (wait u : ℕ) → u ≤ 65535 → share wait u ≤ wait
  pub share-rises : (wait u v : ℕ) → u ≤ v → share wait u ≤ share wait v
  -- The factor of a round (document 02, P6), which `timing::round_factor` gives for k from 1 to 16: 2^(k−1).
  pub factor_power : (k : ℕ) → 1 ≤ k → k ≤ 16 → factor k ≡ 2 ^ (k - 1)
  -- A half trip (document 02, P2), before it is brought into 1..1000: the least whole number of milliseconds that is at least e/8.
  pub least_milliseconds : (e : ℕ) → (e ≤ 8 * eighth_up e) × ((ms : ℕ) → e ≤ 8 * ms → eighth_up e ≤ ms)
  -- And a half trip is that, brought into 1..1000.
  pub half_trip_lem : (e : ℕ) → half_trip e ≡ max 1 (min 1000 (eighth_up e))
  -- Every call of every event changes a slot only as `MayBecome` says, unless its number is retired.
  pub slots_may_become : (e : End) (a : Action) (clock room : ℕ) (draws : List ℕ) (h n : ℕ) → h < 8
      → retired e (event_of e a clock room draws).left h n ≡ false
      → MayBecome (cause_of (moment_at e clock) a h (source_at e (as_host h)).pair) (moment_at e clock) draws (distance_to e (as_host h)) n
      (slot_of e h n) (slot_of (event_of e a clock room draws).left h n)
  -- So a name that waits goes on waiting or gets its cue, with every call but Leave and Crash, until it is retired.
  pub waits_until_held : (e : End) (a : Action) (clock room : ℕ) (draws : List ℕ) (h n : ℕ) (q : Request) → h < 8
      → clearing a ≡ false → request_of e h n ≡ some q
      → retired e (event_of e a clock room draws).left h n ≡ false
      → ((p : Request) × (request_of (event_of e a clock room draws).left h n ≡ some p)) ⊎ (is_held (slot_of (event_of e a clock room draws).left h n) ≡ true)
  -- And a held cue stays held, and stays the same, with every call but Leave and Crash, until it is retired: and it is retired only by a rise
  -- (`spans_may_become` of the season's promises).
  pub held_until_cleared : (e : End) (a : Action) (clock room : ℕ) (draws : List ℕ) (h n : ℕ) → h < 8 → clearing a ≡ false → is_held (slot_of e h n) ≡ true
      → retired e (event_of e a clock room draws).left h n ≡ false
      → (is_held (slot_of (event_of e a clock room draws).left h n) ≡ true) × ((record_of (event_of e a clock room draws).left h n).cue ≡ (record_of e h n).cue)
  -- On a sound end, while a name waits, its round never falls, and rises by at most one with a call, up to 16.
  pub rounds-rise : (e : End) (a : Action) (clock room : ℕ) (draws : List ℕ) (h n : ℕ) (q p : Request) → sound_of e ≡ true → h < 8
      → request_of e h n ≡ some q → request_of (event_of e a clock room draws).left h n ≡ some p
      → (q.round ≤ p.round) × (p.round ≤ q.round + 1) × (p.round ≤ 16)
  -- A request that waits after a call was waiting before it, the very same, or is set now. The draws have their declared type.
  pub set_or_kept : (e : End) (a : Action) (clock room : ℕ) (draws : List ℕ) (h n : ℕ) (p : Request) → Drawn draws → h < 8
      → request_of (event_of e a clock room draws).left h n ≡ some p → (request_of e h n ≡ some p) ⊎ SetNow e clock draws h n p
  -- Up to quiet-until a heard request for a name that waits is Ignored, and nothing but the clock changes.
  pub quiet-ignores : (e : End) (bytes : List ℕ) (clock room : ℕ) (draws : List ℕ) (q : Request)
      → question_of e (Arrival bytes) clock room (length draws) ≡ 0 → asks_for (meaning_from bytes).kind ≡ true
      → request_of e (message_name (meaning_from bytes)).source.0 (message_name (meaning_from bytes)).number.0 ≡ some q → clock ≤ q.quiet
      → hear e bytes clock room draws ≡ record { outcome = Did Ignored; left = with_clock e clock }
  -- However many requests and other bytes arrive up to its quiet-until, a request that waits stays the very same, or gives way to its cue, as
  -- long as first has not passed its number: once it has backed off, it does not back off again in its quiet time.
  pub once_per_quiet : (e : End) (h n : ℕ) (q : Request) → h < 8 → request_of e h n ≡ some q → (xs : List Hearing) → AllBy q.quiet xs
      → is_below (source_at (heard_all e xs) (as_host h)).span n ≡ false
      → (request_of (heard_all e xs) h n ≡ some q) ⊎ (is_held (slot_of (heard_all e xs) h n) ≡ true)
  -- A request that waits always has a due time, below 2^48+2^32; and from then on Fire of the member puts something out. A due time from
  -- 2^48 on is never reached, since no clock is that late. What goes out may be an earlier wait; by `OneLessDue` this one follows after at
  -- most 1,023 others.
  pub always_due : (e : End) (h n : ℕ) (q : Request) → sound_of e ≡ true → h < 8 → request_of e h n ≡ some q
      → (q.due < time_limit)
      × ((clock room : ℕ) (draws : List ℕ) → FireTaken e clock room draws → q.due ≤ clock
      → (bytes : List ℕ) × ((fire e clock room draws).outcome ≡ Did (Out bytes)))
  -- Through any calls, as long as a name waits, from a round up to 16 (every sound end), its round never falls, rises by at most one for
  -- each call, and never passes 16.
  pub rounds-through : (cs : List OneCall) (e : End) (h n : ℕ) (q p : Request) → h < 8 → q.round ≤ 16 → request_of e h n ≡ some q → WaitsThrough h n e cs
      → request_of (after_all e cs) h n ≡ some p → (q.round ≤ p.round) × (p.round ≤ q.round + length cs) × (p.round ≤ 16)
  -- After any calls on an end that was opened, every request that waits was set by one of them, and its due time lies within the bounds
  -- of `SetNow` from that call's clock.
  pub always_set : (me : Host) (params : Params) (cs : List OneCall) (h n : ℕ) (p : Request) → DrawsFit cs → h < 8
      → request_of (after_all (opening_of me params).end cs) h n ≡ some p → SetIn h n p (opening_of me params).end cs
  -- On such an end the quiet-until of a request lies before its due time.
  pub quiet_before_due : (me : Host) (params : Params) (cs : List OneCall) (h n : ℕ) (q : Request) → DrawsFit cs → CuesAreArrays cs → h < 8
      → request_of (after_all (opening_of me params).end cs) h n ≡ some q → q.quiet < q.due
  -- So through any calls up to its quiet-until, Fire among them, a request that still waits is the very same: one round in a quiet time.
  -- The quiet-until lies before the due time, as on every opened end (`QuietBeforeDue`); the name waits after each of the calls.
  pub one_round_per_quiet : (cs : List OneCall) (e : End) (h n : ℕ) (q : Request) → h < 8 → request_of e h n ≡ some q → q.quiet < q.due
      → WaitsThrough h n e cs → NoneAfter q.quiet cs → request_of (after_all e cs) h n ≡ some q
