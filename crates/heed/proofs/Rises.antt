-- A source whose last rose is as far as it was.
use mathlib.Core.Path.{◌≡◌}
use Prim.Native.Nat.{ℕ}
use mathlib.Core.List.{List}
use Rattle.end.specs.declared.Source.{Source}
use Rattle.end.specs.declared.Moment.{Moment}
use Rattle.end.specs.Names.{asked, rise}
use Rattle.end.specs.Ready.{Ranges}
use Rattle.end.proofs.RiseLaws.{rise-distance}

pub risen_ranges : (t : Moment) (us : List ℕ) (n : ℕ) (s x : Source) → x ≡ rise t us n s s.span → Ranges t s.distance → Ranges t x.distance
risen_ranges t us n s x p r = rw (p, rise-distance (asked t us s.distance) n s s.span) r
