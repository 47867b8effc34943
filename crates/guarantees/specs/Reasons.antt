-- What "request quiet" means where the reason call names it: document 02, P3, "request quiet (RQST of a cue not held, up to last)".
use Rattle.std.specs.Prelude.{◌≡◌, ℕ, ◌≤◌}
use Rattle.std.proofs.Math.Option.{some}
use Rattle.end.specs.declared.Request.{Request}
use Rattle.end.specs.declared.Word.{Word}
use Rattle.end.specs.declared.Reason.TheVariants.{RequestQuiet}
use Rattle.end.specs.declared.Why.TheVariants.{Because}
use Rattle.end.specs.declared.End.{End}
use Rattle.end.specs.State.{source_at, with_clock}
use Rattle.end.specs.Decide.{known}
use Rattle.end.specs.Event.{Action}
use Rattle.end.specs.Why.{named_by, why_of}
use Rattle.guarantees.specs.Records.{request_in}

-- A request for the name waits, and the clock is at most its quiet-until. (The test `request_quiet` itself does not look whether one waits: a
-- state that is not refused has one.)
abbrev pub RequestQuietWaits : Type 0
RequestQuietWaits = (e : End) (clock : ℕ) (a : Action) → why_of e clock a ≡ Because RequestQuiet
    → (w : Word) × (q : Request) × (named_by a (with_clock e clock) ≡ some w)
    × (request_in (known w (source_at e w.name.source)).slot ≡ some q) × (clock ≤ q.quiet)
