-- What an end may have or lack: each of these is an Option, and these are the words of its two cases, in which the rules are written. Document 01,
-- "What an end keeps": "first and last (both or neither)", "perhaps one waiting reply"; of the other parts document 02, P8 and P9.
use Rattle.std.specs.Prelude.{ℕ, Option, Some, None}
use Rattle.message.specs.declared.Host.{Host}
use Rattle.message.specs.declared.CueNumber.{CueNumber}
use Rattle.end.specs.declared.Wait.{Wait}

-- whether a reply waits: when it is due, and who asked
abbrev pub Reply : Type 0
Reply = Option (ℕ × Host)

pattern abbrev pub No : Reply
No = None

pattern abbrev pub Due : ℕ → Host → Reply
Due due requester = Some (due, requester)

-- whether an express wait stands beside a request, and when it is due
abbrev pub Express : Type 0
Express = Option ℕ

pattern abbrev pub Unset : Express
Unset = None

pattern abbrev pub Soon : ℕ → Express
Soon due = Some due

-- first and last of a source
abbrev pub Span : Type 0
Span = Option (CueNumber × CueNumber)

pattern abbrev pub Closed : Span
Closed = None

pattern abbrev pub Open : CueNumber → CueNumber → Span
Open first last = Some (first, last)

-- the latest stamp heard from a host, when, and the sources that the message reported
abbrev pub Heard : Type 0
Heard = Option (ℕ × ℕ × ℕ)

pattern abbrev pub Never : Heard
Never = None

pattern abbrev pub At : ℕ → ℕ → ℕ → Heard
At stamp when reported = Some (stamp, when, reported)

-- the requester and the sender of the kept repair, and its number
abbrev pub Pair : Type 0
Pair = Option (Host × Host × CueNumber)

pattern abbrev pub NoPair : Pair
NoPair = None

pattern abbrev pub Kept : Host → Host → CueNumber → Pair
Kept requester sender number = Some (requester, sender, number)

-- the number of the first original since joining
abbrev pub Origin : Type 0
Origin = Option CueNumber

pattern abbrev pub NoOrigin : Origin
NoOrigin = None

pattern abbrev pub From : CueNumber → Origin
From first = Some first

-- the earliest wait found so far
abbrev pub Earliest : Type 0
Earliest = Option Wait

pattern abbrev pub NoWait : Earliest
NoWait = None

pattern abbrev pub First : Wait → Earliest
First wait = Some wait

-- the nearest host found so far, and its distance
abbrev pub Nearest : Type 0
Nearest = Option (Host × ℕ)

pattern abbrev pub Nobody : Nearest
Nobody = None

pattern abbrev pub Found : Host → ℕ → Nearest
Found host distance = Some (host, distance)
