-- The window of a display: when it is sound, how trail and lead rise, which numbers that loses, and the lowest that is missing. Document 02, P11.
use Rattle.std.specs.Prelude.{Option, Some, None, ℕ, zero, suc, ◌+◌, ◌-◌, ◌/◌, ◌%◌, ◌^◌, min, max, Bool, true, false, cond, not, ◌&&◌, leb, ltb}
use Rattle.numbers.specs.Bits.{bit, with_bit}
use Rattle.message.specs.Entry.{as_number}
use Rattle.display_window.specs.declared.Window.{Window}
use Rattle.display_window.specs.declared.Span.{Span}
use Rattle.display_window.specs.declared.Lost.{Lost}
use Rattle.display_window.specs.Parts.{Unstarted, Started, started, NoneAbove, between}

-- ---- "A sound one has neither trail nor lead, or lead as above, and receptions only between them": as above is "lead is from trail to
-- trail+63"
abbrev pub window_sound : Option Window → Bool
window_sound Unstarted = true
window_sound (Started w) =
    leb w.trail.0 w.lead.0 && (leb w.lead.0 (w.trail.0 + 63) && ltb w.set (2 ^ (w.lead.0 + 1 - w.trail.0)))

-- ---- trail and lead

-- "Values lower than it has heard .. it passes over": each becomes the greater of itself and what was heard. Receptions stay those of their
-- numbers: they stand up from trail
unfoldable pub raised : ℕ → ℕ → Option Window → Option Window
raised t l Unstarted = Unstarted
raised t l (Started w) =
    started (as_number (max w.trail.0 t)) (as_number (max w.lead.0 l)) (w.set / 2 ^ (max w.trail.0 t - w.trail.0))

-- a number of trail..lead is received now
unfoldable pub received : ℕ → Option Window → Option Window
received n Unstarted = Unstarted
received n (Started w) = started w.trail w.lead (with_bit w.set (n - w.trail.0))

-- "A newly received cue": not one of the "cues below trail", and not received
unfoldable pub is_new : Option Window → ℕ → Bool
is_new Unstarted n = false
is_new (Started w) n = leb w.trail.0 n && not (bit w.set (n - w.trail.0))

-- "It starts at its sender's first DATA, trail and lead both that number", which is received
abbrev pub start_at : ℕ → Option Window
start_at n = started (as_number n) (as_number n) 1

-- "a later cue n counts as trail n−63 and lead n"
abbrev pub taken : ℕ → Option Window → Option Window
taken n w = received n (raised (n - 63) n w)

-- ---- losses: "A number becomes lost exactly when trail passes it before it is received, that call reports it (a 64-bit set up from the old
-- trail, and a span for those above the old lead)"

-- of the k numbers from the old trail on those that were not received: the low k bits turned over
abbrev pub unreceived : ℕ → ℕ → ℕ
unreceived k set = 2 ^ k - 1 - set % 2 ^ k

abbrev pub lost_above : ℕ → ℕ → Option Span
lost_above lead t = cond (ltb (lead + 1) t) (between (as_number (lead + 1)) (as_number (t - 1))) NoneAbove

abbrev pub none_lost : Lost
none_lost = record { trail = as_number 0; set = 0; above = NoneAbove }

-- when trail has risen to the greater of itself and t
unfoldable pub lost_by : ℕ → Option Window → Lost
lost_by t Unstarted = none_lost
lost_by t (Started w) = record {
  trail = w.trail;
  set = unreceived (min (max w.trail.0 t) (w.lead.0 + 1) - w.trail.0) w.set;
  above = lost_above w.lead.0 (max w.trail.0 t);
}

-- ---- the lowest missing number

-- the least i below k whose bit is not set
unfoldable pub lowest_clear : ℕ → ℕ → Option ℕ
lowest_clear set zero = None
lowest_clear set (suc k) = first_or (lowest_clear set k)
  where
    first_or : Option ℕ → Option ℕ
    first_or None = cond (bit set k) None (Some k)
    first_or (Some i) = Some i

-- "the lowest missing number": of trail..lead the lowest that was not received
unfoldable pub lowest_missing : Option Window → Option ℕ
lowest_missing Unstarted = None
lowest_missing (Started w) = up (lowest_clear w.set (w.lead.0 + 1 - w.trail.0))
  where
    up : Option ℕ → Option ℕ
    up None = None
    up (Some i) = Some (w.trail.0 + i)
