-- When a request gets its turn, on computed runs: document 02, P12, and the crate guarantees, specs/Turn.antt. The end is host 1's, opened with
-- the house's parameters and a member; it holds number 0 of source 0, to which the distance is 40. Then number 2 comes at clock 32, as in document
-- 01's listing, and sets round 1 for number 1. The draws are 65535, so that every wait is as long as it can be: (C1+C2)×d is 680.
use Rattle.std.specs.Prelude.{ℕ, zero, suc, ◌+◌, ◌<◌, ◌≡◌, List, [], ◌∷◌, ◌++◌, replicate}
use Rattle.message.specs.Entry.{as_host, as_number}
use Rattle.message.specs.Message.{DATA}
use Rattle.end.specs.declared.End.{End}
use Rattle.end.specs.declared.Move.TheVariants.{Join, Joined, Leave}
use Rattle.end.specs.Event.{Action, Moves, Arrival, Else, Fire, Report}
use Rattle.end.specs.Opening.{house_params, opening_of}
use Rattle.guarantees.specs.Calls.{OneCall, after, after_all}
use Rattle.guarantees.specs.Turn.{Always, Sometime, round_of, SetsRound, NeitherLeavesNorCrashes, DoesNotGet, DoesNotRetire, NotAfterDue, NotFarther, Supposed, turn_by, SetBy}
use Rattle.cases.specs.Listing.{minus_two, about, message0, message1, message2, message4}
use Rattle.cases.specs.Timed.{tells}

abbrev pub at : ℕ → Action → OneCall
at clock a = record { action = a; clock = clock; room = 128; draws = replicate 64 65535 }

abbrev pub before : End
before = after_all (opening_of (as_host 1) house_params).end (at 0 (Moves Join) ∷ at 0 (Moves Joined) ∷ at 12 (Arrival message0) ∷ [])

-- number 2, by which number 1 is seen to be missing
abbrev pub gap : OneCall
gap = at 32 (Arrival message2)

-- the round of number 1 of source 0 after each of the calls
abbrev pub rounds : End → List OneCall → List ℕ
rounds e [] = []
rounds e (c ∷ cs) = round_of (after e c) 0 1 ∷ rounds (after e c) cs

-- ---- a run in which all is as supposed: the request is fired when it is due, and then a repair comes

abbrev pub fired : List OneCall
fired = at 712 (Else Fire) ∷ at 2072 (Else Fire) ∷ at 4792 (Else Fire) ∷ []

abbrev pub repaired : OneCall
repaired = at 4793 (Arrival message4)

-- Rounds 1 to 4 are set, the last three each at the very bound, 32 + 680, 32 + 3×680 and 32 + 7×680: no smaller one would do. That they are set
-- by then is the theorem's word and not computed.
pub record FourRounds : Type 0 where
  pub sets : SetsRound 1 0 1 before gap
  pub supposed : Supposed 0 1 40 before gap fired repaired
  pub second : Sometime (SetBy 712 2 0 1) (after before gap) fired
  pub third : Sometime (SetBy 2072 3 0 1) (after before gap) fired
  pub fourth : Sometime (SetBy 4792 4 0 1) (after before gap) fired
  pub computed : rounds before (gap ∷ (fired ++ (repaired ∷ []))) ≡ 1 ∷ 2 ∷ 3 ∷ 4 ∷ 0 ∷ []

-- ---- runs in which one thing that is supposed fails, and it alone; the clock has passed the bound, and the round has not been set by then

-- what is supposed, one after the other
abbrev pub suppositions : ℕ → End → OneCall → List OneCall → OneCall → List (Type 0)
suppositions d e c cs next =
    Always NeitherLeavesNorCrashes (after e c) cs
    ∷ Always (DoesNotGet 0 1) (after e c) cs
    ∷ Always (DoesNotRetire 0 1) (after e c) cs
    ∷ Always (NotAfterDue 0 1) (after e c) (cs ++ (next ∷ []))
    ∷ Always (NotFarther d 0) e (c ∷ cs)
    ∷ []

abbrev pub All : List (Type 0) → Type 0
All [] = Unit {0}
All (x ∷ xs) = x × All xs

-- the one at place i, from 0, fails, and all others hold
abbrev pub AllBut : ℕ → List (Type 0) → Type 0
AllBut i [] = Unit {0}
AllBut zero (x ∷ xs) = (x → ⊥) × All xs
AllBut (suc i) (x ∷ xs) = x × AllBut i xs

pub record Needed (i d k : ℕ) (e : End) (c : OneCall) (cs : List OneCall) (next : OneCall) : Type 0 where
  pub sets : SetsRound 1 0 1 e c
  pub alone : AllBut i (suppositions d e c cs next)
  pub passed : turn_by e.params d c.clock k < (after_all (after e c) (cs ++ (next ∷ []))).clock
  pub not_set : Sometime (SetBy (turn_by e.params d c.clock k) (k + 1) 0 1) (after e c) cs → ⊥

-- an event that does nothing to the request, by which the clock passes the bound
abbrev pub past : ℕ → OneCall
past clock = at clock (Else Report)

-- It leaves, and its clock goes on. (A crashed end's clock stays, and up to the crash, itself included, no event is later than the due time: so
-- it never passes the bound.)
abbrev pub left : List OneCall
left = at 40 (Moves Leave) ∷ []

-- it gets the cue
abbrev pub gotten : List OneCall
gotten = at 100 (Arrival message1) ∷ []

-- number 80 comes, by which 1 is retired
abbrev pub passed_over : List OneCall
passed_over = at 100 (Arrival (about DATA 0 30 80 0 (minus_two ∷ []))) ∷ []

-- the first event after the due time is the Fire itself, at 10,000, which sets round 2; by it too the clock may pass the bound
abbrev pub fired_late : OneCall
fired_late = at 10000 (Else Fire)

-- the distance grows to 88 while round 1 waits: round 2, set at 712, is due at 712 + 2×17×88 = 3704, after the bound for round 3 at 40
abbrev pub farther : List OneCall
farther = at 700 (tells 0 0 []) ∷ at 712 (Else Fire) ∷ []

-- A session message tells of number 1, at distance 40, and then brings the distance down to 1: round 1 is due at 712, after the bound
-- 32 + 17 at distance 1. So the distance that the first call finds counts too, though it is 1 ever after.
abbrev pub told : OneCall
told = at 32 (tells 32 0 (record { source = as_host 0; last = as_number 1 } ∷ []))

abbrev pub nearer : List OneCall
nearer = past 49 ∷ []

pub record EachIsNeeded : Type 0 where
  pub stays : Needed 0 40 1 before gap left (past 713)
  pub lacks : Needed 1 40 1 before gap gotten (past 713)
  pub keeps : Needed 2 40 1 before gap passed_over (past 713)
  pub fires : Needed 3 40 1 before gap (fired_late ∷ []) (past 10001)
  pub fires_at_last : Needed 3 40 1 before gap [] fired_late
  pub near : Needed 4 40 2 before gap farther (past 2073)
  pub near_at_first : Needed 4 1 1 before told nearer (past 50)
  pub near-after : Always (NotFarther 1 0) (after before told) nearer
