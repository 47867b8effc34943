-- The numbers first..last, as the choice goes through them: each is within, so that what stands in its place is its record.
use mathlib.Core.Path.{◌≡◌, refl, subst}
use Prim.Native.Nat.{ℕ, ◌+◌, ◌-◌, ◌≤◌, ◌<◌}
use native.Mathlib.Omega.{arith}
use mathlib.Core.Bool.{true}
use lib.ListN.{get_or}
use Rattle.message.specs.declared.CueNumber.{CueNumber}
use Rattle.message.specs.Entry.{as_host}
use Rattle.end.specs.Parts.{Span, Closed, Open}
use Rattle.end.specs.declared.Source.{Source}
use Rattle.end.specs.declared.End.{End}
use Rattle.end.specs.State.{no_source}
use Rattle.end.specs.Records.{within, start, width, raw_at, record_at}
use Rattle.end.specs.Ready.{SpanIn}
use Rattle.end.proofs.RecordLaws.{within_in, at-inside}
use Rattle.state.specs.Settled.{Settled}

in_width : (x : Span) (i : ℕ) → i < width x → within x (start x + i) ≡ true
in_width Closed i h = absurd (omega arith)
in_width (Open first last) i h = within_in first.0 last.0 (first.0 + i) (omega arith) (omega arith)

pub read : (s : Source) (i : ℕ) → i < width s.span → record_at s (start s.span + i) ≡ raw_at s.names (start s.span + i)
read s i h = at-inside s (start s.span + i) (in_width s.span i h)

-- a span that was matched: how many its numbers are
module _ {x : Span} {first last : CueNumber} (l : SpanIn x) (e : x ≡ Open first last) where
  ordered : SpanIn (Open first last)
  ordered = subst SpanIn e l

  pub in_order_lem : first.0 ≤ last.0 + 1
  in_order_lem = omega (arith, ordered)

  pub open_width : (last.0 + 1 - first.0 ≡ width x) × (start x + (last.0 + 1 - first.0) ≤ 65536)
  open_width = rw e (refl, omega (arith, ordered))

-- the spans of a settled state, source by source
pub span_in : {e : End} (h : ℕ) → h < 8 → Settled e → SpanIn (get_or e.sources h no_source).span
span_in h l s = (s.counts (as_host h) l).span
