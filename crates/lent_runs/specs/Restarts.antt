-- Lists of calls in which hosts restart, as statements; proofs/Restarts.antt proves each. A host that restarts opens its end again by
-- cuelink_reopen, with the parameters and the next own number that its lost bytes held, at any clock that is not below theirs. The list is the
-- list with a Leave and a Left in that place: the same bytes, the same answers. So demand 3 holds of it.
use Rattle.std.specs.Prelude.{◌≡◌, false, cond, List, [], ◌∷◌, map, ℕ, ◌≤◌, ◌<◌, length, replicate}
use Rattle.message.specs.Limit.{room_needed, ticks_limit}
use Rattle.end.specs.declared.Params.{Params}
use Rattle.end.specs.declared.Status.{Status}
use Rattle.end.specs.declared.Answer.TheVariants.{Done, Ignored}
use Rattle.end.specs.declared.Move.{Move}
use Rattle.end.specs.declared.Move.TheVariants.{Leave, Left}
use Rattle.end.specs.State.{is_crashed}
use Rattle.end.specs.Round.{draw_count, Drawn}
use Rattle.end.specs.Event.{Moves, moves, moves_to}
use Rattle.end.specs.Book.{put, RunFrom, empty_book}
use Rattle.end.specs.Lates.{LatesAsFiled}
use Rattle.end.specs.Run.{Call, sent_after, Brought, CueArray}
use Rattle.lent_answer.specs.Number.{number_of}
use Rattle.lent_end.specs.State.{state_width, status_number, end_from}
use Rattle.lent_calls.specs.Open.{opened_number, opened_state, reopen_of}
use Rattle.lent_runs.specs.Lists.{Lent, OpenedLent, lent_after, lent_through, Given, given_on, given, outcome_on, onlooked}

-- a call; or a host restarts: it opens its end again at a clock, into a buffer
pub data Turn : Type 0 where
  Calls : Call → Turn
  Restarts : ℕ → ℕ → List ℕ → Turn

-- the seven parameters as cuelink_reopen takes them
abbrev pub numbers_of : Params → List ℕ
numbers_of p = p.c1 ∷ p.c2 ∷ p.c3 ∷ p.d1 ∷ p.d2 ∷ p.d3 ∷ p.express ∷ []

-- the bytes that cuelink_reopen leaves in the buffer: with the parameters and the next own number of the end that the host's bytes held
abbrev pub restarted : ℕ → List ℕ → ℕ → List ℕ → List ℕ
restarted h s clock buffer = opened_state (reopen_of h (numbers_of (end_from s).params) clock (end_from s).next) buffer

unfoldable pub turn_after : Lent → Turn → Lent
turn_after l (Calls c) = lent_after l c
turn_after l (Restarts h clock buffer) = put l h (restarted h (l h) clock buffer)

unfoldable pub turns_through : Lent → List Turn → Lent
turns_through l [] = l
turns_through l (t ∷ ts) = turns_through (turn_after l t) ts

-- a restart counts as a Leave and then a Left, each Done or Ignored by the status that it finds
abbrev pub after : Move → Status → Status
after m x = cond (moves m x) (moves_to m) x

abbrev pub counted : ℕ → Move → Status → Given
counted h m x = record {
  host = h;
  action = Moves m;
  number = number_of (cond (moves m x) Done Ignored);
  output = replicate room_needed 0;
  status = status_number (after m x);
}

unfoldable pub turns_given : Lent → List Turn → List Given
turns_given l [] = []
turns_given l (Calls c ∷ ts) = given_on l c ∷ turns_given (lent_after l c) ts
turns_given l (Restarts h clock buffer ∷ ts) =
    let x = (end_from (l h)).status in
    counted h Leave x ∷ counted h Left (after Leave x) ∷ turns_given (turn_after l (Restarts h clock buffer)) ts

-- the list without restarts: each is those two calls, at its clock
abbrev pub move_call : ℕ → Move → ℕ → Call
move_call h m clock = record { host = h; action = Moves m; clock = clock; output = replicate room_needed 0; draws = replicate draw_count 0 }

unfoldable pub as_calls : List Turn → List Call
as_calls [] = []
as_calls (Calls c ∷ ts) = c ∷ as_calls ts
as_calls (Restarts h clock buffer ∷ ts) = move_call h Leave clock ∷ move_call h Left clock ∷ as_calls ts

-- a host may restart: its end did not crash, and the clock is one and not below that of the end's last call, so a clock that was stored before is
-- not enough unless the time since is added
pub record MayRestart (h : ℕ) (s : List ℕ) (clock : ℕ) (buffer : List ℕ) : Type 0 where
  pub host : h < 8
  pub running : is_crashed (end_from s).status ≡ false
  pub later : (end_from s).clock ≤ clock
  pub ticks : clock < ticks_limit
  pub long : length buffer ≡ state_width

-- lists of calls with arguments of their declared types, and of restarts that may be
abbrev pub TurnsDeclared : Lent → List Turn → Type 0
TurnsDeclared l [] = Unit {0}
TurnsDeclared l (Calls c ∷ ts) = (c.host < 8) × Drawn c.draws × CueArray c.action × TurnsDeclared (lent_after l c) ts
TurnsDeclared l (Restarts h clock buffer ∷ ts) = MayRestart h (l h) clock buffer × TurnsDeclared (turn_after l (Restarts h clock buffer)) ts

-- Whatever the calls and restarts before, a host whose end did not crash may restart at the clock of its state: a sound state has one that is in range.
abbrev pub MayAlwaysRestart : Type 0
MayAlwaysRestart = (l : Lent) → OpenedLent l → (ts : List Turn) → TurnsDeclared l ts → (h : ℕ) → h < 8 → (buffer : List ℕ) → length buffer ≡ state_width
    → let s = turns_through l ts h in is_crashed (end_from s).status ≡ false → MayRestart h s (end_from s).clock buffer

-- And cuelink_reopen then answers 0.
abbrev pub ReopenAnswers0 : Type 0
ReopenAnswers0 = (l : Lent) → OpenedLent l → (ts : List Turn) → TurnsDeclared l ts → (h clock : ℕ) (buffer : List ℕ)
    → let s = turns_through l ts h in MayRestart h s clock buffer
    → opened_number (reopen_of h (numbers_of (end_from s).params) clock (end_from s).next) buffer ≡ 0

-- Every list with restarts is the list without: after it the hosts have the very same bytes, and every call answered, left and said the same.
pub record AsWithout (l : Lent) (ts : List Turn) : Type 0 where
  pub states : turns_through l ts ≡ lent_through l (as_calls ts)
  pub gives : turns_given l ts ≡ given l (as_calls ts)

abbrev pub RestartsAreLeaving : Type 0
RestartsAreLeaving = (l : Lent) → OpenedLent l → (ts : List Turn) → TurnsDeclared l ts → AsWithout l ts

-- ---- demand 3 of such lists: their calls are as before, an unrefused Arrival brings what an earlier Out put out, before a restart or after it
abbrev pub TurnsAllowed : Lent → List (List ℕ) → List Turn → Type 0
TurnsAllowed l sent [] = Unit {0}
TurnsAllowed l sent (Calls c ∷ ts) =
    (c.host < 8)
    × Drawn c.draws
    × CueArray c.action
    × Brought sent c.action (outcome_on l c)
    × TurnsAllowed (lent_after l c) (sent_after (outcome_on l c) sent) ts
TurnsAllowed l sent (Restarts h clock buffer ∷ ts) =
    MayRestart h (l h) clock buffer × TurnsAllowed (turn_after l (Restarts h clock buffer)) sent ts

abbrev pub RestartService : Type 0
RestartService = (l : Lent) → OpenedLent l → (ts : List Turn) → TurnsAllowed l [] ts → RunFrom empty_book (map onlooked (turns_given l ts))

abbrev pub RestartLatesAsFiled : Type 0
RestartLatesAsFiled = (l : Lent) → OpenedLent l → (ts : List Turn) → TurnsAllowed l [] ts → LatesAsFiled empty_book (map onlooked (turns_given l ts))
