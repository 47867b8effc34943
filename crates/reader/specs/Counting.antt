-- What the reader's parts promise each other, over the width w of a cue number.
use Rattle.std.specs.Prelude.{◌≡◌, ℕ, zero, suc, ◌*◌, ◌≤◌, ◌<◌, List, length, get_or, Result, Ok, Err}
use Rattle.message.specs.Kind.{number_width, widest_number}
use Rattle.message.specs.Message.{Meaning, held_as, kind_byte, counts_of, meaning_with, size_with, Small}
use Rattle.message.specs.declared.Counts.{Counts}
use Rattle.message.specs.declared.Message.{Message}
use Rattle.message.specs.declared.Refusal.{Refusal}

-- r is the byte at a place, and 0 past the end
pub record ByteAt (s : List ℕ) (at r : ℕ) : Type 0 where
  pub there : r ≡ get_or s at 0
  pub small : r < 256

-- r is the length of so many entries of a width
pub record EntriesLong (count width r : ℕ) : Type 0 where
  pub long : r ≡ count * width
  pub small : r < 65536

-- each count is a byte
pub record CountBytes (c : Counts) : Type 0 where
  pub names : c.names < 256
  pub cues : c.cues < 256
  pub reports : c.reports < 256
  pub echoes : c.echoes < 256

-- c has the counts of the message that bytes are read as
pub record CountsIn (w : ℕ) (s : List ℕ) (c : Counts) : Type 0 where
  pub counts : c ≡ counts_of (meaning_with w s)
  pub bytes : CountBytes c

-- w is the width that the kind byte asks for
pub record WidthIn (s : List ℕ) (w : ℕ) : Type 0 where
  pub width : w ≡ number_width (kind_byte s)
  pub widest : w ≤ widest_number

-- the counts account for the length, and fit the places
pub record Loadable (w : ℕ) (s : List ℕ) (c : Counts) : Type 0 where
  pub counts : c ≡ counts_of (meaning_with w s)
  pub size : size_with w c ≡ length s
  pub small : Small w c
  pub widest : w ≤ widest_number

-- the message where the bytes are accepted, and else the number of the first no
abbrev pub message_or : ℕ → Meaning → Result Message Refusal
message_or zero M = Ok (held_as M)
message_or (suc k) M = Err (record { 0 = suc k })
