-- A list of calls is one that demand 3 speaks of: a test that computes.
use mathlib.Core.Path.{◌≡◌, refl}
use mathlib.Core.Bool.{Bool, true, false, ◌&&◌, ◌||◌}
use mathlib.Core.List.{List, [], ◌∷◌, Memᴰ}
use mathlib.Core.Logic.{inl}
use Prim.Native.Nat.{ℕ}
use lib.ListN.{length}
use lib.Dec.{eqb, ltb}
use borrow.Author.Tests.{eqb-true, ltb-true}
use Rattle.end.specs.Event.{Action, Moves, Send, Arrival, Else}
use Rattle.end.specs.Answer.{Outcome, Refused, Did}
use Rattle.end.specs.Run.{World, Call, result_of, world_after, FromOut, Brought, CueArray, Allowed}
use Rattle.end.proofs.Tools.{by_test, clash', and_left, and_right, or_alone}

-- ---- the tests
unfoldable pub same_bytes_lem : List ℕ → List ℕ → Bool
same_bytes_lem [] [] = true
same_bytes_lem [] (y ∷ ys) = false
same_bytes_lem (x ∷ xs) [] = false
same_bytes_lem (x ∷ xs) (y ∷ ys) = eqb x y && same_bytes_lem xs ys

unfoldable pub was_sent : List ℕ → List (List ℕ) → Bool
was_sent x [] = false
was_sent x (y ∷ l) = same_bytes_lem x y || was_sent x l

-- a probe may come from anywhere
unfoldable pub comes : List ℕ → List (List ℕ) → Bool
comes [] l = true
comes (b ∷ s) l = was_sent (b ∷ s) l

unfoldable pub brings : List (List ℕ) → Action → Outcome → Bool
brings l (Moves m) o = true
brings l (Send cue) o = true
brings l (Arrival bytes) (Refused k) = true
brings l (Arrival bytes) (Did a) = comes bytes l
brings l (Else e) o = true

unfoldable pub is_array : Action → Bool
is_array (Moves m) = true
is_array (Send cue) = eqb (length cue) 24
is_array (Arrival bytes) = true
is_array (Else e) = true

unfoldable pub allowed : World → List Call → Bool
allowed w [] = true
allowed w (c ∷ cs) =
    ltb c.host 8
    && (is_array c.action
    && (brings w.sent c.action (result_of w c).outcome && allowed (world_after w c.host (result_of w c)) cs))

-- one name that opens them
unfoldable pub tests : ℕ
unfolding same_bytes_lem was_sent comes brings is_array allowed
tests = 0

-- ---- what they tell
pub same_bytes : (xs ys : List ℕ) → same_bytes_lem xs ys ≡ true → xs ≡ ys
unfolding same_bytes_lem
same_bytes [] [] h = refl
same_bytes [] (y ∷ ys) h = clash' h
same_bytes (x ∷ xs) [] h = clash' h
same_bytes (x ∷ xs) (y ∷ ys) h =
    let p : x ≡ y = eqb-true x y (and_left (eqb x y) (same_bytes_lem xs ys) h) in
    let q : xs ≡ ys = same_bytes xs ys (and_right (eqb x y) (same_bytes_lem xs ys) h) in
    cc

was_sent_lem : (x : List ℕ) (l : List (List ℕ)) → was_sent x l ≡ true → Memᴰ x l
unfolding was_sent
was_sent_lem x [] h = clash' h
was_sent_lem x (y ∷ l) h =
    by_test (same_bytes_lem x y) (λ t. Memᴰ.head (same_bytes x y t)) (λ f. Memᴰ.tail (was_sent_lem x l (or_alone (same_bytes_lem x y) (was_sent x l) h f)))

from_out : (x : List ℕ) (l : List (List ℕ)) → comes x l ≡ true → FromOut l x
unfolding comes
from_out [] l h = tt
from_out (b ∷ s) l h = inl (was_sent_lem (b ∷ s) l h)

brought : (l : List (List ℕ)) (ev : Action) (o : Outcome) → brings l ev o ≡ true → Brought l ev o
unfolding brings
brought l (Moves m) o h = tt
brought l (Send cue) o h = tt
brought l (Arrival bytes) (Refused k) h = tt
brought l (Arrival bytes) (Did a) h = from_out bytes l h
brought l (Else e) o h = tt

pub is_array_lem : (ev : Action) → is_array ev ≡ true → CueArray ev
unfolding is_array
is_array_lem (Moves m) h = tt
is_array_lem (Send cue) h = eqb-true (length cue) 24 h
is_array_lem (Arrival bytes) h = tt
is_array_lem (Else e) h = tt

pub is-allowed : (cs : List Call) (w : World) → allowed w cs ≡ true → Allowed w cs
unfolding allowed
is-allowed [] w h = tt
is-allowed (c ∷ cs) w h =
    let after = world_after w c.host (result_of w c) in
    let test = brings w.sent c.action (result_of w c).outcome in
    let first = and_right (ltb c.host 8) (is_array c.action && (test && allowed after cs)) h in
    let rest = and_right (is_array c.action) (test && allowed after cs) first in (
      ltb-true c.host 8 (and_left (ltb c.host 8) (is_array c.action && (test && allowed after cs)) h),
      is_array_lem c.action (and_left (is_array c.action) (test && allowed after cs) first),
      brought w.sent c.action (result_of w c).outcome (and_left test (allowed after cs) rest),
      is-allowed cs after (and_right test (allowed after cs) rest),
    )
