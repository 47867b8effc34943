-- What waits in an end, what of it is due, and document 01's order of waits: "of all waits with due ≤ clock the earliest; ties:
-- request before reply, then lower source, lower number", with document 02, P8: "Express waits come before requests in ties." Nothing here
-- says how Fire looks for it.
use Rattle.std.specs.Prelude.{◌≡◌, Bool, false, cond, ◌&&◌, ◌||◌, List, [], ◌∷◌, ◌⊎◌, ℕ, zero, suc, ◌+◌, ◌≤◌, ◌<◌, ltb, leb, eqb}
use Rattle.message.specs.declared.Name.{Name}
use Rattle.message.specs.Entry.{as_host, as_number}
use Rattle.end.specs.Parts.{Unset, Soon, No, Due}
use Rattle.end.specs.declared.Slot.{Slot}
use Rattle.end.specs.declared.Slot.TheVariants.{Empty, Held, Waiting}
use Rattle.end.specs.declared.Wait.{Wait}
use Rattle.end.specs.declared.End.{End}
use Rattle.end.specs.State.{source_at}
use Rattle.end.specs.Records.{start, record_at}
use Rattle.end.specs.Fire.{express_rank, request_rank, reply_rank}

abbrev pub wait_of : Name → ℕ → ℕ → Wait
wait_of name rank due = record { due = due; rank = rank; name = name }

-- what a record has waiting under its name: its request, and beside it perhaps an express wait; or the reply beside its held cue
unfoldable pub waits_in : Name → Slot → List Wait
waits_in name Empty = []
waits_in name (Waiting q Unset) = wait_of name request_rank q.due ∷ []
waits_in name (Waiting q (Soon due)) = wait_of name express_rank due ∷ wait_of name request_rank q.due ∷ []
waits_in name (Held No) = []
waits_in name (Held (Due due requester)) = wait_of name reply_rank due ∷ []

-- the waits of an end under a name
unfoldable pub waits_at : End → Name → List Wait
waits_at e name = waits_in name (record_at (source_at e name.source) name.number.0).slot

-- w is one of them
abbrev pub Among : Wait → List Wait → Type 0
Among w [] = ⊥
Among w (x ∷ xs) = (x ≡ w) ⊎ Among w xs

-- a wait of the end, under any number of one of its eight sources, whose time has come
pub record IsDue (e : End) (w : Wait) : Type 0 where
  pub source : w.name.source.0 < 8
  pub waits : Among w (waits_at e w.name)
  pub due : w.due ≤ e.clock

-- w is due earlier than v; or at the same time, and it has the lower rank: express before request before reply
abbrev pub sooner : Wait → Wait → Bool
sooner w v = ltb w.due v.due || (eqb w.due v.due && ltb w.rank v.rank)

-- they are due at the same time, and of one rank
abbrev pub level : Wait → Wait → Bool
level w v = eqb w.due v.due && eqb w.rank v.rank

-- a is of the lower source, or of the same source and the lower number
abbrev pub lower_name : Name → Name → Bool
lower_name a b = ltb a.source.0 b.source.0 || (eqb a.source.0 b.source.0 && ltb a.number.0 b.number.0)

-- w comes before v: it is sooner; or they are level, and w has the lower name
unfoldable pub precedes : Wait → Wait → Bool
precedes w v = sooner w v || (level w v && lower_name w.name v.name)

-- w is due, and no wait that is due comes before it
pub record IsEarliest (e : End) (w : Wait) : Type 0 where
  pub due : IsDue e w
  pub first : (v : Wait) → IsDue e v → precedes v w ≡ false

-- ---- how many waits are due

-- f at 0, at 1, .. at k − 1, added up
unfoldable pub sum_below : (ℕ → ℕ) → ℕ → ℕ
sum_below f zero = 0
sum_below f (suc k) = sum_below f k + f k

-- how many of these waits are due at the clock
unfoldable pub due_count : ℕ → List Wait → ℕ
due_count clock [] = 0
due_count clock (w ∷ ws) = cond (leb w.due clock) 1 0 + due_count clock ws

-- the first number of a source, 0 where there is none
abbrev pub first_number : End → ℕ → ℕ
first_number e h = start (source_at e (as_host h)).span

-- the waits of an end that are due, over the 64 numbers from first on of each of its 8 sources; a sound end has no others
unfoldable pub due_waits : End → ℕ
due_waits e =
    sum_below (λ h. sum_below (λ i. due_count e.clock (waits_at e (record { source = as_host h; number = as_number (first_number e h + i) }))) 64) 8
