-- The reason behind Ignored: document 02, P3; the statements of the crate `end`, Why.
use Rattle.std.specs.Prelude.{◌≡◌, true, false, List, ℕ, ◌≤◌, ◌<◌, length}
use Rattle.std.proofs.Math.Option.{some}
use Rattle.end.specs.declared.Request.{Request}
use Rattle.end.specs.declared.Word.{Word}
use Rattle.end.specs.declared.Reason.{Reason}
use Rattle.end.specs.declared.Reason.TheVariants.{RequestQuiet}
use Rattle.end.specs.declared.Why.TheVariants as why
use Rattle.end.specs.declared.End.{End}
use Rattle.end.specs.State.{source_at, with_clock}
use Rattle.end.specs.Decide.{known}
use Rattle.end.specs.Answer.{Effect, Ignored, Refused, Did}
use Rattle.end.specs.Event.{Action, event_of}
use Rattle.guarantees.specs.Records.{request_in}
use Rattle.end.specs.Why.{named_by, reason_holds, reason_number, is_ignored, why_of}

pub record ReasonsKept : Type 0 where
  -- "The reason named is shown true and those before it false"
  pub reason_is_first : (e : End) (clock : ℕ) (a : Action) (reason : Reason) → why_of e clock a ≡ why.Because reason
      → (reason_holds e clock a reason ≡ true) × ((other : Reason) → reason_number other < reason_number reason → reason_holds e clock a other ≡ false)
  -- And where "none" is given, none of the eleven holds.
  pub none-holds : (e : End) (clock : ℕ) (a : Action) → why_of e clock a ≡ why.NoReason → (reason : Reason) → reason_holds e clock a reason ≡ false
  -- Where "request quiet" is named, a request for the name waits, and the clock is at most its quiet-until.
  pub request_quiet_waits : (e : End) (clock : ℕ) (a : Action) → why_of e clock a ≡ why.Because RequestQuiet
      → (w : Word) × (q : Request) × (named_by a (with_clock e clock) ≡ some w)
      × (request_in (known w (source_at e w.name.source)).slot ≡ some q) × (clock ≤ q.quiet)
  -- For every state, event, clock, output of at least 128 bytes and 64 draws: a number exactly where the event is refused with it ..
  pub number_exactly : (e : End) (clock : ℕ) (a : Action) (k room : ℕ) (draws : List ℕ) → 128 ≤ room → length draws ≡ 64
      → (why_of e clock a ≡ why.Refused k → (event_of e a clock room draws).outcome ≡ Refused k)
      × ((event_of e a clock room draws).outcome ≡ Refused k → why_of e clock a ≡ why.Refused k)
  -- .. one of the eleven reasons exactly where it is Ignored ..
  pub reason_exactly : (e : End) (clock : ℕ) (a : Action) (room : ℕ) (draws : List ℕ) → 128 ≤ room → length draws ≡ 64
      → ((reason : Reason) → why_of e clock a ≡ why.Because reason → (event_of e a clock room draws).outcome ≡ Did Ignored)
      × ((event_of e a clock room draws).outcome ≡ Did Ignored → (reason : Reason) × (why_of e clock a ≡ why.Because reason))
  -- .. and "none" exactly where it is neither.
  pub none_exactly : (e : End) (clock : ℕ) (a : Action) (room : ℕ) (draws : List ℕ) → 128 ≤ room → length draws ≡ 64
      → (why_of e clock a ≡ why.NoReason → (x : Effect) × ((event_of e a clock room draws).outcome ≡ Did x) × (is_ignored x ≡ false))
      × ((x : Effect) → (event_of e a clock room draws).outcome ≡ Did x → is_ignored x ≡ false → why_of e clock a ≡ why.NoReason)
