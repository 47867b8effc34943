-- Document 01's listing of "house", as calls, and the answers that it prints: "other cue bytes 0; draws 0; parameters 9,8,4,4,4,8; ..
-- the ends are hosts 0 and 1". A message number stands for the bytes that were put out under it.
use Rattle.std.specs.Prelude.{ℕ, List, [], ◌∷◌, replicate, pos, negsuc}
use Rattle.message.specs.Cue.{cue_with}
use Rattle.message.specs.Entry.{as_host, as_number}
use Rattle.message.specs.Message.{DATA, RQST, REPL, bytes_of}
use Rattle.message.specs.declared.Name.{Name}
use Rattle.end.specs.declared.Status.TheVariants.{Idle}
use Rattle.end.specs.State.{fresh_end}
use Rattle.end.specs.Answer.{Out, Got, Done, Nothing}
use Rattle.end.specs.Event.{Action, Moves, Send, Arrival, Else, Fire}
use Rattle.end.specs.declared.Move.TheVariants.{Join, Joined}
use Rattle.end.specs.Answer.{Outcome, Did}
use Rattle.end.specs.Opening.{house_params}
use Rattle.end.specs.Book.{Entry}
use Rattle.end.specs.Run.{World, Call, seen}

-- the ends, freshly opened
abbrev pub house : World
house = record { ends = λ h. fresh_end (as_host h) house_params Idle; sent = [] }

abbrev pub call : ℕ → ℕ → Action → Call
call h clock ev = record { host = h; action = ev; clock = clock; output = replicate 128 0; draws = replicate 64 0 }

-- the cue with focus −2
abbrev pub minus_two : List ℕ
minus_two = cue_with (record { focus = negsuc 1; zoom = pos 0; sideways = pos 0; upright = pos 0; lamp = 0 })

abbrev pub name_at : ℕ → ℕ → Name
name_at s n = record { source = as_host s; number = as_number n }

-- a message about a name with its sender, stamp, host and cues
abbrev pub about_name : Name → ℕ → ℕ → ℕ → ℕ → List (List ℕ) → List ℕ
about_name name kind sender stamp host cues = bytes_of (record {
  kind = kind;
  sender = as_host sender;
  stamp = stamp;
  names = record { name = name; host = as_host host } ∷ [];
  cues = cues;
  reports = [];
  echoes = [];
})

-- name 0,n, and a message about it
abbrev pub name_of : ℕ → Name
name_of n = name_at 0 n

abbrev pub about : ℕ → ℕ → ℕ → ℕ → ℕ → List (List ℕ) → List ℕ
about kind sender stamp n host cues = about_name (name_of n) kind sender stamp host cues

-- handed out: name 0,n with that cue
abbrev pub got : ℕ → Outcome
got n = Did (Got (name_of n) minus_two)

-- the five messages, numbered as put out
abbrev pub message0 : List ℕ
message0 = about DATA 0 10 0 0 (minus_two ∷ [])

abbrev pub message1 : List ℕ
message1 = about DATA 0 20 1 0 (minus_two ∷ [])

abbrev pub message2 : List ℕ
message2 = about DATA 0 30 2 0 (minus_two ∷ [])

abbrev pub message3 : List ℕ
message3 = about RQST 1 392 1 1 []

abbrev pub message4 : List ℕ
message4 = about REPL 0 560 1 1 (minus_two ∷ [])

-- "house" reads this
abbrev pub script : List Call
script =
    call 0 0 (Moves Join)
    ∷ call 0 0 (Moves Joined)
    ∷ call 1 0 (Moves Join)
    ∷ call 1 0 (Moves Joined)
    ∷ call 0 10 (Send minus_two)
    ∷ call 1 12 (Arrival message0)
    ∷ call 0 20 (Send minus_two)
    ∷ call 0 30 (Send minus_two)
    ∷ call 1 32 (Arrival message2)
    ∷ call 1 391 (Else Fire)
    ∷ call 1 392 (Else Fire)
    ∷ call 0 400 (Arrival message3)
    ∷ call 0 560 (Else Fire)
    ∷ call 1 570 (Arrival message4)
    ∷ []

-- and prints
abbrev pub printed : List Outcome
printed =
    Did Done
    ∷ Did Done
    ∷ Did Done
    ∷ Did Done
    ∷ Did (Out message0)
    ∷ got 0
    ∷ Did (Out message1)
    ∷ Did (Out message2)
    ∷ got 2
    ∷ Did Nothing
    ∷ Did (Out message3)
    ∷ Did Done
    ∷ Did (Out message4)
    ∷ got 1
    ∷ []

abbrev pub outcomes : List Entry → List Outcome
outcomes [] = []
outcomes (x ∷ xs) = x.outcome ∷ outcomes xs

-- what the ends answer
abbrev pub played : List Call → List Outcome
played cs = outcomes (seen house cs)
