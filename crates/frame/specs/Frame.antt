-- The frame of a call: the reading that it is given.
use Rattle.std.specs.Prelude.{◌≡◌, ℕ, List}
use Rattle.message.specs.declared.Reading.{Reading}
use Rattle.end.specs.declared.Event.{Event}
use Rattle.taking.specs.Taking.{reading_for}

-- a reading that some bytes have
abbrev pub Brought : Event → Reading → Type 0
Brought what reading = (bytes : List ℕ) × (reading ≡ reading_for what bytes)
