-- A display beside an end, as calls and what they answer: the display asks for a cue that it lacks, and its request arrives. Document 02, P11: "In
-- the service's runs its RQSTs may arrive."
use Rattle.std.specs.Prelude.{ℕ, List, [], ◌∷◌}
use Rattle.message.specs.Entry.{as_host}
use Rattle.message.specs.Message.{RQST, REPL}
use Rattle.end.specs.Answer.{Out, Done, Outcome, Did}
use Rattle.end.specs.Event.{Moves, Send, Arrival, Else, Fire}
use Rattle.end.specs.declared.Move.TheVariants.{Join, Joined}
use Rattle.end.specs.Run.{result_of}
use Rattle.display.specs.Display.{fresh}
use Rattle.display.specs.Call.{Event, Hear, Step}
use Rattle.display_history.specs.Foyer.{Turn, AtEnd, AtDisplay, Foyer, display_result, after_end, after_display}
use Rattle.cases.specs.Listing.{house, call, minus_two, about, got, message0, message1, message2}

-- the ends of the listing, and displays of host 2 that follow host 0
abbrev pub foyer : Foyer
foyer = record { world = house; displays = λ k. fresh (as_host 2) (as_host 0); asked = [] }

-- a call on the display at place 0
abbrev pub seen : ℕ → Event → Turn
seen clock event = AtDisplay 0 (record { event = event; clock = clock; room = 128 })

-- the display's request for cue 1, and end 0's repair for host 2
abbrev pub request : List ℕ
request = about RQST 2 40 1 2 []

abbrev pub repair : List ℕ
repair = about REPL 0 205 1 2 (minus_two ∷ [])

-- End 0 sends three cues, and the second is lost on its way to the display.
abbrev pub turns : List Turn
turns =
    AtEnd (call 0 0 (Moves Join))
    ∷ AtEnd (call 0 0 (Moves Joined))
    ∷ AtEnd (call 0 10 (Send minus_two))
    ∷ seen 12 (Hear message0)
    ∷ AtEnd (call 0 20 (Send minus_two))
    ∷ AtEnd (call 0 30 (Send minus_two))
    ∷ seen 32 (Hear message2)
    ∷ seen 40 Step
    ∷ AtEnd (call 0 45 (Arrival request))
    ∷ AtEnd (call 0 205 (Else Fire))
    ∷ seen 210 (Hear repair)
    ∷ []

abbrev pub turns_give : List Outcome
turns_give =
    Did Done
    ∷ Did Done
    ∷ Did (Out message0)
    ∷ got 0
    ∷ Did (Out message1)
    ∷ Did (Out message2)
    ∷ got 2
    ∷ Did (Out request)
    ∷ Did Done
    ∷ Did (Out repair)
    ∷ got 1
    ∷ []

-- what ends and displays answer
unfoldable pub answers : Foyer → List Turn → List Outcome
answers f [] = []
answers f (AtEnd c ∷ ts) = (result_of f.world c).outcome ∷ answers (after_end f c) ts
answers f (AtDisplay k c ∷ ts) = (display_result f k c).outcome ∷ answers (after_display f k c) ts
