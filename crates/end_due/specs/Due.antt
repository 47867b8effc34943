-- When the earliest wait of an end is due, with no regard to its clock.
use Rattle.std.specs.Prelude.{ℕ, ◌+◌, cond, List, get_or, ltb}
use Rattle.end.specs.declared.Slot.{Slot}
use Rattle.end.specs.declared.Slot.TheVariants.{Empty, Held, Waiting}
use Rattle.end.specs.Parts.{Express, Unset, Soon, No, Due}
use Rattle.end.specs.declared.Source.{Source}
use Rattle.end.specs.declared.End.{End}
use Rattle.end.specs.State.{no_source}
use Rattle.end.specs.Records.{start, width, record_at}
use Rattle.end.specs.Sound.{sound_of}
use Rattle.end.specs.Fire.{fold_up}

-- 2^64−1: nothing waits
abbrev pub never : ℕ
never = 18446744073709551615

abbrev pub least : ℕ → ℕ → ℕ
least a b = cond (ltb a b) a b

abbrev pub express_due : Express → ℕ → ℕ
express_due Unset m = m
express_due (Soon due) m = least due m

abbrev pub slot_due : Slot → ℕ → ℕ
slot_due Empty m = m
slot_due (Waiting q x) m = least q.due (express_due x m)
slot_due (Held No) m = m
slot_due (Held (Due due requester)) m = least due m

-- of the first k of a source's numbers first..last
abbrev pub names_due : Source → ℕ → ℕ → ℕ
names_due s m k = fold_up (λ i x. slot_due (record_at s (start s.span + i)).slot x) m k

-- of the first k sources
abbrev pub sources_due : List Source → ℕ → ℕ
sources_due all k = fold_up (λ h x. let s = get_or all h no_source in names_due s x (width s.span)) never k

-- "the least due time of all waits, 2^64−1 where nothing waits"
unfoldable pub next_due : End → ℕ
next_due e = sources_due e.sources 8

-- of any end: never, where it is not sound
unfoldable pub due_of : End → ℕ
due_of e = cond (sound_of e) (next_due e) never
