-- `rises::rise_with` meets its contract: the span is the one that was matched.
use Rattle.end.specs.Names.{rise_with}
use borrow.Author.Rules.{rules}
use Rattle.state.proofs.Counted.{count_small}
use Rattle.rises.proofs.Steps.{rise_open}
use mathlib.Core.Path.{◌≡◌}
use Prim.Native.Nat.{ℕ}
use Rattle.end.specs.declared.Record.{Record}
use Rattle.end.specs.declared.Source.{Source}
use Rattle.end.specs.Parts.{Span, Closed}
use Rattle.rises.proofs.rise_with.Goals as goal

rise_closed : (new : ℕ → Record) (n : ℕ) (s : Source) (x : Span) → x ≡ Closed → s ≡ rise_with new n s x
unfolding rise_with
rise_closed new n s x e = rw e

pub returns-in-None : goal.returns-in-None
returns-in-None c = rise_closed _ _ _ _ c.in-None.is

pub risen-requires : goal.risen-requires
risen-requires c = search (count_small, rules)

pub returns-in-Some : goal.returns-in-Some
returns-in-Some c = search rise_open
