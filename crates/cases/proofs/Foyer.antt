-- Demand 3 with a display in the list, at work: the display's request arrives at an end, is answered, and the list is a run of the service.
use mathlib.Core.Path.{◌≡◌, refl}
use mathlib.Core.List.Memᴰ
use mathlib.Core.Logic.{inr}
use native.Mathlib.Omega.{arith}
use Rattle.message.specs.Entry.{as_host}
use Rattle.end.specs.Book.{RunFrom, empty_book}
use Rattle.end.specs.Run as run
use Rattle.display.specs.Display.{opening_of}
use Rattle.display_history.specs.Foyer.{Allowed, Fresh, at_ends}
use Rattle.display.proofs.Rows.{computed}
use Rattle.display_history.proofs.Foyer.{foyer-service}
use Rattle.cases.specs.Listing.{house}
use Rattle.cases.specs.Foyer.{foyer, turns, turns_give, answers}
use Rattle.cases.proofs.Opened.{opened}
use Rattle.cases.proofs.Service.{house-fresh}

pub foyer-plays : answers foyer turns ≡ turns_give
unfolding answers opened computed
foyer-plays = refl

foyer-fresh : Fresh foyer
unfolding opening_of
foyer-fresh = record { ends = house-fresh; displays = λ k. (as_host 2, as_host 0, refl); asked = refl }

-- a call on an end and those after it
next : {A B C D : Type 0} → A → B → C → D → A × B × C × D
next a b c d = (a, b, c, d)

-- what the end hears is what the display put out
pub turns-allowed : Allowed foyer turns
unfolding opened computed
turns-allowed =
    next (omega arith) tt tt
    (next (omega arith) tt tt
    (next (omega arith) refl tt
    (next (omega arith) refl tt
    (next (omega arith) refl tt
    (next (omega arith) tt (inr (Memᴰ.head refl))
    (next (omega arith) tt tt tt))))))

pub foyer-runs : RunFrom empty_book (run.seen house (at_ends turns))
foyer-runs = foyer-service foyer foyer-fresh turns turns-allowed
