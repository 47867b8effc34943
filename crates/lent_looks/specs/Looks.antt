-- What a host reads off the lent bytes without an event: 2^64−1 where the bytes are no state, the host or source is not one of the eight, or
-- there is no such value.
use Rattle.std.specs.Prelude.{ℕ, cond, List, get_or, ltb}
use Rattle.message.specs.Limit.{host_limit}
use Rattle.end.specs.Parts.{Span, Closed, Open, Origin, NoOrigin, From}
use Rattle.end.specs.declared.Source.{Source}
use Rattle.end.specs.declared.End.{End}
use Rattle.end.specs.State.{no_source}
use Rattle.end_due.specs.Due.{due_of}
use Rattle.lent_answer.specs.Number.{NONE}
use Rattle.lent_end.specs.State.{end_from, is_state, status_number}

-- ---- of the end
unfoldable pub look : (End → ℕ) → List ℕ → ℕ
look f s = cond (is_state s) (f (end_from s)) NONE

abbrev pub host_in : End → ℕ
host_in e = e.host.0

abbrev pub clock_in : End → ℕ
clock_in e = e.clock

-- 0 idle, 1 joining, 2 member, 3 leaving, 4 crashed
abbrev pub status_in : End → ℕ
status_in e = status_number e.status

-- the next own cue number
abbrev pub next_in : End → ℕ
next_in e = e.next

-- "the least due time of all waits, 2^64−1 where nothing waits", and where the state is not sound
abbrev pub due_in : End → ℕ
due_in e = due_of e

-- ---- of one of its eight hosts or sources
unfoldable pub look_at : (Source → ℕ) → ℕ → List ℕ → ℕ
look_at f h s = cond (ltb h host_limit) (look (λ e. f (get_or e.sources h no_source)) s) NONE

abbrev pub first_of : Span → ℕ
first_of Closed = NONE
first_of (Open first last) = first.0

abbrev pub last_of : Span → ℕ
last_of Closed = NONE
last_of (Open first last) = last.0

abbrev pub origin_of : Origin → ℕ
origin_of NoOrigin = NONE
origin_of (From n) = n.0

abbrev pub first_in : Source → ℕ
first_in x = first_of x.span

abbrev pub last_in : Source → ℕ
last_in x = last_of x.span

-- how many numbers were retired without a cue since joining (document 02, P7)
abbrev pub missed_in : Source → ℕ
missed_in x = x.missed

-- the first original's number since joining: the 64 numbers just below it may be fetched (document 02, P9)
abbrev pub origin_in : Source → ℕ
origin_in x = origin_of x.origin

abbrev pub distance_in : Source → ℕ
distance_in x = x.distance
