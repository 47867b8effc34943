-- A repair under way when its reader leaves, which arrives after the reader has rejoined: it never opens the source, and after an
-- original it is handed out if it is not below the first. (What the customer could not test.)
use Rattle.std.specs.Prelude.{List, [], ◌∷◌, ◌++◌, take}
use Rattle.end.specs.Answer.{Got, Done, Ignored}
use Rattle.end.specs.Event.{Moves, Arrival}
use Rattle.end.specs.declared.Move.TheVariants.{Join, Joined, Leave, Left}
use Rattle.end.specs.Answer.{Outcome, Did}
use Rattle.end.specs.Run.{Call}
use Rattle.cases.specs.Listing.{call, minus_two, name_of, message0, message2, message4, script, printed}

-- the listing but its last line, so that the repair, message 4, is under way; then end 1 leaves and rejoins, and the repair comes
abbrev pub rejoining : List Call
rejoining =
    take 13 script
    ++ (call 1 570 (Moves Leave) ∷ call 1 571 (Moves Left) ∷ call 1 572 (Moves Join) ∷ call 1 573 (Moves Joined) ∷ call 1 574 (Arrival message4) ∷ [])

abbrev pub rejoining_gives : List Outcome
rejoining_gives = take 13 printed ++ (Did Done ∷ Did Done ∷ Did Done ∷ Did Done ∷ Did Ignored ∷ [])

-- after the original of number 0 the same repair, of number 1, is handed out, once
abbrev pub after_original : List Call
after_original = rejoining ++ (call 1 575 (Arrival message0) ∷ call 1 576 (Arrival message4) ∷ call 1 577 (Arrival message4) ∷ [])

abbrev pub after_original_gives : List Outcome
after_original_gives = rejoining_gives ++ (Did (Got (name_of 0) minus_two) ∷ Did (Got (name_of 1) minus_two) ∷ Did Done ∷ [])

-- after the original of number 2 it is below the first, and passed over
abbrev pub below_first : List Call
below_first = rejoining ++ (call 1 575 (Arrival message2) ∷ call 1 576 (Arrival message4) ∷ [])

abbrev pub below_first_gives : List Outcome
below_first_gives = rejoining_gives ++ (Did (Got (name_of 2) minus_two) ∷ Did Ignored ∷ [])
