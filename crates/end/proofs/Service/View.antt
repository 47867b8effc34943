-- What the service sees of an end: its host, status and next number, first and last of each source, and the held cues. And the
-- invariant: an end against the book, and bytes that were put out.
use mathlib.Core.Path.{◌≡◌, refl}
use mathlib.Core.Bool.{Bool, true, false, ◌&&◌, ◌||◌}
use mathlib.Core.List.{List}
use mathlib.Core.Option.{Option, none, some}
use Prim.Native.Nat.{ℕ, ◌-◌, ◌<◌, max}
use lib.ListN.{length, get_elem?}
use lib.Dec.{eqb}
use Rattle.message.specs.Entry.{as_host}
use Rattle.message.specs.Message.{LATE, Meaning}
use Rattle.end.specs.declared.Slot.{Slot}
use Rattle.end.specs.declared.Slot.TheVariants.{Empty, Held, Waiting}
use Rattle.end.specs.Parts.{Span, Closed, Open}
use Rattle.end.specs.declared.Source.{Source}
use Rattle.end.specs.declared.End.{End}
use Rattle.end.specs.State.{source_at, is_member}
use Rattle.end.specs.Records.{record_at}
use Rattle.end.specs.Answer.{PutsOut, class_of, Step}
use Rattle.end.specs.Arrival.{message_cue}
use Rattle.end.specs.Event.{Action}
use Rattle.end.specs.Book.{Book, read_as, is_original, is_repair, source, number, raised_to, higher, among, first_of, not_below, is_some, due, after, Meets}

-- ---- what is seen of a source
unfoldable pub held_in_lem : Slot → List ℕ → Option (List ℕ)
held_in_lem Empty c = none
held_in_lem (Held reply) c = some c
held_in_lem (Waiting q x) c = none

unfoldable pub first_in : Span → Option ℕ
first_in Closed = none
first_in (Open first last) = some first.0

unfoldable pub last_in : Span → Option ℕ
last_in Closed = none
last_in (Open first last) = some last.0

-- "first becomes the greater of itself and L−63"
unfoldable pub windowed : Option ℕ → Option ℕ → Option ℕ
windowed none top = none
windowed (some f) none = some f
windowed (some f) (some top) = some (max f (top - 63))

unfoldable pub held_at : Source → ℕ → Option (List ℕ)
held_at s n = held_in_lem (record_at s n).slot (record_at s n).cue

unfoldable pub or_else : Option ℕ → ℕ → ℕ
or_else none n = n
or_else (some f) n = f

-- nothing that the service sees of a source has changed
pub record SameSource (s s' : Source) : Type 0 where
  pub first : first_in s'.span ≡ first_in s.span
  pub last : last_in s'.span ≡ last_in s.span
  pub holding : (n : ℕ) → held_at s' n ≡ held_at s n

-- the number n was brought, of another source: last has risen to it, and what is not below first is held as before
pub record RoseSource (another : Bool) (s s' : Source) (n : ℕ) : Type 0 where
  pub first : another ≡ true → first_in s'.span ≡ windowed (first_in s.span) (last_in s'.span)
  pub last : another ≡ true → last_in s'.span ≡ raised_to n (last_in s.span)
  pub up : (j : ℕ) → not_below (first_in s'.span) j ≡ true → not_below (first_in s.span) j ≡ true
  pub holding : (j : ℕ) → not_below (first_in s'.span) j ≡ true → held_at s' j ≡ held_at s j

-- the cue c is now held under n, and the source is open
pub record TookSource (s s' : Source) (n : ℕ) (c : List ℕ) : Type 0 where
  pub first : first_in s'.span ≡ windowed (some (or_else (first_in s.span) n)) (last_in s'.span)
  pub last : last_in s'.span ≡ some (higher (last_in s.span) n)
  pub there : held_at s' n ≡ some c
  pub holding : (j : ℕ) → eqb j n ≡ false → not_below (first_in s'.span) j ≡ true → held_at s' j ≡ held_at s j

-- ---- what is seen of an end
unfoldable pub holds : End → ℕ → ℕ → Option (List ℕ)
holds e s n = held_at (source_at e (as_host s)) n

unfoldable pub first_at : End → ℕ → Option ℕ
first_at e s = first_in (source_at e (as_host s)).span

unfoldable pub last_at : End → ℕ → Option ℕ
last_at e s = last_in (source_at e (as_host s)).span

-- nothing that the service sees has changed
pub record Same (e e' : End) : Type 0 where
  pub host : e'.host.0 ≡ e.host.0
  pub status : e'.status ≡ e.status
  pub next : e'.next ≡ e.next
  pub firsts : (s : ℕ) → s < 8 → first_at e' s ≡ first_at e s
  pub lasts : (s : ℕ) → s < 8 → last_at e' s ≡ last_at e s
  pub holding : (s n : ℕ) → s < 8 → holds e' s n ≡ holds e s n

-- numbers were brought: last of each other source is now as `top` has it, and what is not below first is held as before
pub record Rose (top : ℕ → Option ℕ → Option ℕ) (e e' : End) : Type 0 where
  pub host : e'.host.0 ≡ e.host.0
  pub status : e'.status ≡ e.status
  pub next : e'.next ≡ e.next
  pub firsts : (s : ℕ) → s < 8 → eqb e.host.0 s ≡ false → first_at e' s ≡ windowed (first_at e s) (last_at e' s)
  pub lasts : (s : ℕ) → s < 8 → eqb e.host.0 s ≡ false → last_at e' s ≡ top s (last_at e s)
  pub up : (s n : ℕ) → s < 8 → not_below (first_at e' s) n ≡ true → not_below (first_at e s) n ≡ true
  pub holding : (s n : ℕ) → s < 8 → not_below (first_at e' s) n ≡ true → holds e' s n ≡ holds e s n

-- the cue c is now held under s, n, and nothing else that the service sees has changed but the next number and what was retired of s
pub record Took (e e' : End) (s n : ℕ) (c : List ℕ) : Type 0 where
  pub host : e'.host.0 ≡ e.host.0
  pub status : e'.status ≡ e.status
  pub first-there : first_at e' s ≡ windowed (some (or_else (first_at e s) n)) (last_at e' s)
  pub last-there : last_at e' s ≡ some (higher (last_at e s) n)
  pub holds-there : holds e' s n ≡ some c
  pub holding-there : (j : ℕ) → eqb j n ≡ false → not_below (first_at e' s) j ≡ true → holds e' s j ≡ holds e s j
  pub firsts : (k : ℕ) → k < 8 → eqb k s ≡ false → first_at e' k ≡ first_at e k
  pub lasts : (k : ℕ) → k < 8 → eqb k s ≡ false → last_at e' k ≡ last_at e k
  pub holding : (k j : ℕ) → k < 8 → eqb k s ≡ false → holds e' k j ≡ holds e k j

-- ---- the invariant

-- an end against the book. What the book has handed out counts for a member alone: the book clears it at Joined, the end at Leave. Last is
-- the highest number brought, first the first handed out or what the window leaves, and held is what was handed out and is not below it
pub record Rel (b : Book) (h : ℕ) (e : End) : Type 0 where
  pub host : e.host.0 ≡ h
  pub status : e.status ≡ b.status h
  pub next : e.next ≡ length (b.filed h)
  pub filed : (s n : ℕ) (c : List ℕ) → s < 8 → holds e s n ≡ some c → get_elem? (b.filed s) n ≡ some c
  pub handed : is_member e.status ≡ true → (s n : ℕ) → s < 8 → eqb h s ≡ false → is_some (holds e s n) ≡ among n (b.handed h s) && not_below (first_at e s) n
  pub firsts : is_member e.status ≡ true → (s : ℕ) → s < 8 → eqb h s ≡ false → first_at e s ≡ windowed (first_of (b.handed h s)) (b.highest h s)
  pub lasts : is_member e.status ≡ true → (s : ℕ) → s < 8 → eqb h s ≡ false → last_at e s ≡ b.highest h s

-- a message that carries a cue: an original, a repair or a fetched cue
abbrev pub carries : Meaning → Bool
carries m = (is_original m || is_repair m) || eqb m.kind LATE

-- bytes that, if they are a message with a cue, carry the cue filed under its name
abbrev pub Filed : Book → List ℕ → Type 0
Filed b x = (m : Meaning) → read_as x ≡ some m → carries m ≡ true → get_elem? (b.filed (source m)) (number m) ≡ some (message_cue m)

-- the book b' after b: nothing of another host than h has changed, and filed cues stay
pub record Grows (h : ℕ) (b b' : Book) : Type 0 where
  pub status : (k : ℕ) → eqb k h ≡ false → b'.status k ≡ b.status k
  pub handed : (k s : ℕ) → eqb k h ≡ false → b'.handed k s ≡ b.handed k s
  pub highest : (k s : ℕ) → eqb k h ≡ false → b'.highest k s ≡ b.highest k s
  pub count : (k : ℕ) → eqb k h ≡ false → length (b'.filed k) ≡ length (b.filed k)
  pub filed : (k n : ℕ) (c : List ℕ) → get_elem? (b.filed k) n ≡ some c → get_elem? (b'.filed k) n ≡ some c

-- an unrefused call of host h is by the book
pub record Right (b : Book) (h : ℕ) (ev : Action) (r : Step) : Type 0 where
  pub answered : Meets (due b h ev) r.effect
  pub rel : Rel (after b h ev) h r.left
  pub grows : Grows h b (after b h ev)
  pub filed : (x : List ℕ) → class_of r.effect ≡ PutsOut x → Filed (after b h ev) x

pub grows_refl : (h : ℕ) (b : Book) → Grows h b b
grows_refl h b = record { status = λ k d. refl; handed = λ k s d. refl; highest = λ k s d. refl; count = λ k d. refl; filed = λ k n c p. p }
