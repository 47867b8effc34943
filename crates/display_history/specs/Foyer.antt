-- Demand 3 with displays in the list. Document 02, P11: "In the service's runs its RQSTs may arrive." A list has calls on ends and on any
-- number of displays, in any order; what a display hears is any bytes whatever.
use Rattle.std.specs.Prelude.{◌≡◌, ◌⊎◌, ℕ, ◌<◌}
use mathlib.Core.List.{List, [], ◌∷◌, Memᴰ}
use Rattle.message.specs.declared.Host.{Host}
use Rattle.end.specs.Answer.{Outcome, Refused, Did}
use Rattle.end.specs.Event.{Action, Moves, Send, Arrival, Else}
use Rattle.end.specs.Book.{put, RunFrom, empty_book}
use Rattle.end.specs.Run as run
use Rattle.display.specs.declared.Display.{Display}
use Rattle.display.specs.Display.{opening_of}
use Rattle.display.specs.Call.{Result, event_of}
use Rattle.display_history.specs.History.{Call}

-- a call on an end, or on the display at a place
pub data Turn : Type 0 where
  AtEnd : run.Call → Turn
  AtDisplay : ℕ → Call → Turn

-- the ends and the displays as their last calls left them, with the bytes that the ends put out so far (in `world`) and those that displays did
pub record Foyer : Type 0 where
  pub world : run.World
  pub displays : ℕ → Display
  pub asked : List (List ℕ)

abbrev pub display_result : Foyer → ℕ → Call → Result
display_result f k c = event_of (f.displays k) c.event c.clock c.room

abbrev pub after_end : Foyer → run.Call → Foyer
after_end f c = record { world = run.world_after f.world c.host (run.result_of f.world c); displays = f.displays; asked = f.asked }

abbrev pub after_display : Foyer → ℕ → Call → Foyer
after_display f k c =
    let r = display_result f k c in
    record { world = f.world; displays = put f.displays k r.left; asked = run.sent_after r.outcome f.asked }

-- "An unrefused Arrival brings the bytes that an earlier Out of the list, any end's, put out", or a display's; an empty datagram comes from
-- anywhere
abbrev pub FromEither : Foyer → List ℕ → Type 0
FromEither f [] = Unit {0}
FromEither f (b ∷ s) = Memᴰ (b ∷ s) f.world.sent ⊎ Memᴰ (b ∷ s) f.asked

abbrev pub Brought : Foyer → Action → Outcome → Type 0
Brought f (Moves m) o = Unit {0}
Brought f (Send cue) o = Unit {0}
Brought f (Arrival bytes) (Refused k) = Unit {0}
Brought f (Arrival bytes) (Did a) = FromEither f bytes
Brought f (Else e) o = Unit {0}

-- of a display's calls nothing is asked
abbrev pub Allowed : Foyer → List Turn → Type 0
Allowed f [] = Unit {0}
Allowed f (AtEnd c ∷ ts) =
    (c.host < 8)
    × run.CueArray c.action
    × Brought f c.action (run.result_of f.world c).outcome
    × Allowed (after_end f c) ts
Allowed f (AtDisplay k c ∷ ts) = Allowed (after_display f k c) ts

-- ends opened fresh, and displays from openings, refused ones too
pub record Fresh (f : Foyer) : Type 0 where
  pub ends : run.Fresh f.world
  pub displays : (k : ℕ) → (own : Host) × (sender : Host) × (f.displays k ≡ (opening_of own sender).display)
  pub asked : f.asked ≡ []

-- the calls on ends
unfoldable pub at_ends : List Turn → List run.Call
at_ends [] = []
at_ends (AtEnd c ∷ ts) = c ∷ at_ends ts
at_ends (AtDisplay k c ∷ ts) = at_ends ts

-- The calls on ends are a list that demand 3 speaks of, whatever the displays hear and ask: so all that is said of those lists holds with
-- displays among them.
abbrev pub EndsAllowed : Type 0
EndsAllowed = (f : Foyer) → Fresh f → (ts : List Turn) → Allowed f ts → run.Allowed f.world (at_ends ts)

-- Demand 3: what an onlooker sees of the ends is a run of the service.
abbrev pub FoyerService : Type 0
FoyerService = (f : Foyer) → Fresh f → (ts : List Turn) → Allowed f ts → RunFrom empty_book (run.seen f.world (at_ends ts))
