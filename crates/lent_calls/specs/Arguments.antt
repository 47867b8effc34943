-- What a host in C hands to a call, as plain numbers and bytes, and what the call takes it for. A number that its type cannot hold is never cut:
-- it is taken for a value that there is not, so that the call's own question refuses it, or its rule ignores it.
use Rattle.std.specs.Prelude.{ℕ, ◌-◌, min, cond, List, [], ◌∷◌, length, get_or, replicate, ltb, leb, eqb}
use Rattle.message.specs.declared.Name.{Name}
use Rattle.message.specs.Entry.{as_host, as_number}
use Rattle.end.specs.declared.Params.{Params}
use Rattle.lent_answer.specs.Number.{host_of}
use Rattle.end.specs.declared.Move.{Move}
use Rattle.end.specs.declared.Move.TheVariants.{Join, Joined, Leave, Left, Crash}
use Rattle.end.specs.declared.Event.{Event}
use Rattle.end.specs.declared.Event.TheVariants.{Moves, Send, Arrival, Fire, Report, Fetch, Announce}

-- the name of a fetch. A source above 255 is host 255, which is none of the eight, and so is that of a number that there is not: such a fetch is
-- Ignored
abbrev pub name_of : ℕ → ℕ → Name
name_of source number = record { source = cond (leb number 65535) (host_of source) (as_host 255); number = as_number (min number 65535) }

-- a cue that is not of 24 bytes is one out of range, by its lamp: refused as 6, in 6's place
abbrev pub cue_of : List ℕ → List ℕ
cue_of b = cond (eqb (length b) 24) b (replicate 24 255)

-- the seven parameters C1 C2 C3 D1 D2 D3 E; another count of numbers is parameters out of range: refused as 13, in 13's place
abbrev pub no_params : Params
no_params = record { c1 = 33; c2 = 33; c3 = 33; d1 = 33; d2 = 33; d3 = 33; express = 0 }

abbrev pub params_of : List ℕ → Params
params_of p =
    cond (eqb (length p) 7)
    (record {
      c1 = get_or p 0 0;
      c2 = get_or p 1 0;
      c3 = get_or p 2 0;
      d1 = get_or p 3 0;
      d2 = get_or p 4 0;
      d3 = get_or p 5 0;
      express = get_or p 6 0;
    })
    no_params

-- the events by number, for the reason call: 0 join, 1 joined, 2 leave, 3 left, 4 crash; 5 send, 6 arrival, 7 fire, 8 report, 9 fetch,
-- 10 announce. The call asks for at most 10 first
abbrev pub move_of : ℕ → Move
move_of n = get_or (Join ∷ Joined ∷ Leave ∷ Left ∷ []) n Crash

abbrev pub event_of : ℕ → Name → Event
event_of n name = cond (ltb n 5) (Moves (move_of n)) (get_or (Send ∷ Arrival ∷ Fire ∷ Report ∷ Fetch name ∷ []) (n - 5) Announce)
